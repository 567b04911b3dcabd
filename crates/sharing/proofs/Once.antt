-- Names, each once: which names stand in a list, how often and how many, and sums over them. Assumes nothing.
use Prim.Native.Nat.{ℕ, zero, suc, ◌+◌, ◌*◌, ◌≤◌, ◌<◌}
use mathlib.Core.Path.{◌≡◌, refl, ◌∙◌, sym, ap₂}
use mathlib.Core.List.{List, [], ◌∷◌}
use mathlib.Core.Bool.{Bool, true, false, cond, ◌||◌, or-true, or-false}
use mathlib.Core.Logic.{⊎_elim}
use native.Mathlib.Omega.{arith}
use native.Mathlib.Nat.{zero-mul, one-mul, add-mul, eq-or-lt_of_le, le_of_suc-le-suc, not-suc-le-zero, le_refl}
use borrow.Author.Tests.{eqb-true, eqb-false, eq-eqb, ne_eqb}
use lib.Dec.{eqb}
use lib.ListN.{length}
use Rattle.sections.specs.Total.{total}
use Rattle.sections.specs.Search.{some}
use Rattle.sections.proofs.Cases.{zero_one}
use Rattle.sections.proofs.Search.{some_none}
use Rattle.accounts.specs.Rows.{sum_of}
use Rattle.sharing.specs.Once.{has, join_new, named, times}
use Rattle.sharing.specs.Inner.Seen.{seen, newly}
use Rattle.sharing.proofs.Sums.{sum_same, sum_plus, sum_none}

-- ---- names seen

module _ (name : ℕ → ℕ) where
  -- each record's name is seen
  pub seen_each : (n k : ℕ) → k < n → seen name n (name k) ≡ true
  unfolding seen some
  seen_each zero k h = absurd (not-suc-le-zero h)
  seen_each (suc n) k h =
      ⊎_elim
      (λ (q : k ≡ n). rw (q, eq-eqb (name n) (name n) refl, or-true))
      (λ (l : k < n). rw (seen_each n k l))
      (eq-or-lt_of_le (le_of_suc-le-suc h))

  -- a name that no record gives is not seen
  pub seen_none : (n a : ℕ) → ((k : ℕ) → k < n → name k ≡ a → ⊥) → seen name n a ≡ false
  unfolding seen
  seen_none n a h = some_none _ n (λ k l. ne_eqb (name k) a (h k l))

  -- nor does any record give a name that is not seen
  pub unseen_each : (n a : ℕ) → seen name n a ≡ false → (k : ℕ) → k < n → eqb (name k) a ≡ false
  unseen_each n a e k l =
      ne_eqb (name k) a (λ (q : name k ≡ a). zero_one (cc (seen_each n k l)))

-- ---- which names stand in a list

has_join : (x a : ℕ) (l : List ℕ) → has a (join_new x l) ≡ (eqb x a || has a l)
unfolding join_new has
has_join x a l = by (has x l) refl (eqb x a) refl
  where
    by : (t : Bool) → has x l ≡ t → (u : Bool) → eqb x a ≡ u → has a (cond t l (x ∷ l)) ≡ (u || has a l)
    by true h true e = rw (← eqb-true x a e) h
    by true h false e = refl
    by false h u e = rw e

-- a name stands in the list where a record gives it or it stood there
pub has_named : (name : ℕ → ℕ) (n : ℕ) (l : List ℕ) (a : ℕ) → has a (named name n l) ≡ (seen name n a || has a l)
unfolding named seen some
has_named name zero l a = refl
has_named name (suc n) l a = rw (has_join, has_named name n l a) (by (eqb (name n) a) (seen name n a) (has a l))
  where
    by : (t u v : Bool) → (t || (u || v)) ≡ ((u || t) || v)
    by true true v = refl
    by true false v = refl
    by false u v = rw or-false

-- ---- how often, and how many

eqb_sym : (a b : ℕ) → eqb a b ≡ eqb b a
eqb_sym a b = by (eqb a b) refl
  where
    by : (t : Bool) → eqb a b ≡ t → t ≡ eqb b a
    by true h = sym (eq-eqb b a (sym (eqb-true a b h)))
    by false h = sym (ne_eqb b a (λ q. eqb-false a b h (sym q)))

once_join : (x : ℕ) (l : List ℕ) → ((a : ℕ) → times a l ≡ cond (has a l) 1 0) → (a : ℕ) → times a (join_new x l) ≡ cond (has a (join_new x l)) 1 0
unfolding join_new times has
once_join x l o a = by (has x l) refl (eqb x a) refl
  where
    by : (t : Bool) → has x l ≡ t → (u : Bool) → eqb x a ≡ u → times a (cond t l (x ∷ l)) ≡ cond (has a (cond t l (x ∷ l))) 1 0
    by true h u e = o a
    by false h true e = rw (e, o a, ← eqb-true x a e, h)
    by false h false e = rw e (omega (arith, o a))

-- where each name stands once, it does so with the records' names
pub once_named : (name : ℕ → ℕ) (n : ℕ) (l : List ℕ) → ((a : ℕ) → times a l ≡ cond (has a l) 1 0) → (a : ℕ) → times a (named name n l) ≡ cond (has a (named name n l)) 1 0
unfolding named
once_named name zero l o = o
once_named name (suc n) l o = once_join (name n) (named name n l) (once_named name n l o)

pub once_none : (a : ℕ) → times a [] ≡ cond (has a []) 1 0
unfolding times has
once_none a = refl

-- the names are at most as many as the records, and those that were there
pub length_named : (name : ℕ → ℕ) (n : ℕ) (l : List ℕ) → length (named name n l) ≤ n + length l
unfolding named join_new
length_named name zero l = omega arith
length_named name (suc n) l = by (has (name n) (named name n l)) (length_named name n l)
  where
    by : (t : Bool) → length (named name n l) ≤ n + length l → length (cond t (named name n l) (name n ∷ named name n l)) ≤ suc n + length l
    by true h = omega arith
    by false h = omega arith

-- a name joined to a list makes it longer by one where it is new
pub length_join : (x : ℕ) (l : List ℕ) → length (join_new x l) ≡ length l + newly (has x l)
unfolding join_new
length_join x l = by (has x l)
  where
    by : (t : Bool) → length (cond t l (x ∷ l)) ≡ length l + newly t
    by true = omega arith
    by false = omega arith

-- a name joined before the records' names counts as one joined after them
length_joined : (name : ℕ → ℕ) (n x : ℕ) (l : List ℕ) → length (named name n (join_new x l)) ≡ length (named name n l) + newly (has x (named name n l))
unfolding named seen some
length_joined name zero x l = length_join x l
length_joined name (suc n) x l =
    rw (length_join (name n) (named name n (join_new x l)), length_join (name n) (named name n l), length_joined name n x l, has_join (name n) x (named name n l), has_named name n (join_new x l) (name n), has_join x (name n) l, has_named name n l (name n), has_named name n l x, eqb_sym (name n) x)
    (by (eqb x (name n)) refl)
  where
    by : (t : Bool) → eqb x (name n) ≡ t → (length (named name n l) + newly (seen name n x || has x l)) + newly (seen name n (name n) || (t || has (name n) l)) ≡ (length (named name n l) + newly (seen name n (name n) || has (name n) l)) + newly (t || (seen name n x || has x l))
    by true e = rw (eqb-true x (name n) e, or-true)
    by false e = omega arith

-- two kinds of records give as many names in either order
pub named_turned : (f g : ℕ → ℕ) (n m : ℕ) → length (named f n (named g m [])) ≡ length (named g m (named f n []))
unfolding named
named_turned f g zero m = refl
named_turned f g (suc n) m =
    rw (length_join (f n) (named f n (named g m [])), length_joined g m (f n) (named f n []), named_turned f g n m, has_named f n (named g m []) (f n), has_named g m (named f n []) (f n), has_named f n [] (f n), has_named g m [] (f n))
    (by (seen f n (f n)) (seen g m (f n)))
  where
    by : (t u : Bool) → length (named g m (named f n [])) + newly (t || (u || has (f n) [])) ≡ length (named g m (named f n [])) + newly (u || (t || has (f n) []))
    by true true = refl
    by true false = refl
    by false u = refl

-- ---- sums over names

-- what one name adds, as often as it stands in the list
sum_at : (b v : ℕ) (l : List ℕ) → sum_of (λ a. cond (eqb b a) v 0) l ≡ times b l * v
unfolding sum_of times
sum_at b v [] = sym (zero-mul v)
sum_at b v (x ∷ l) = rw (sum_at b v l, add-mul, eqb_sym b x) (by (eqb x b))
  where
    by : (t : Bool) → cond t v 0 + times b l * v ≡ cond t 1 0 * v + times b l * v
    by true = omega arith
    by false = omega arith

-- what each record adds to its own name, summed over a list in which each record's name stands once, is what the records add
pub sum_each : (name f : ℕ → ℕ) (l : List ℕ) (n : ℕ) → ((k : ℕ) → k < n → times (name k) l ≡ 1) → sum_of (λ a. total (λ i. cond (eqb (name i) a) (f i) 0) n) l ≡ total f n
unfolding total
sum_each name f l zero h = sum_none l
sum_each name f l (suc n) h =
    rw (sum_plus (λ a. total (λ i. cond (eqb (name i) a) (f i) 0) n) (λ a. cond (eqb (name n) a) (f n) 0) l, sum_each name f l n (λ k m. h k (omega arith)), sum_at (name n) (f n) l, h n (le_refl (suc n)), one-mul)

-- names that stand in the list already leave it as it is
pub named_known : (name : ℕ → ℕ) (n : ℕ) (l : List ℕ) → ((k : ℕ) → k < n → has (name k) l ≡ true) → named name n l ≡ l
unfolding named join_new
named_known name zero l h = refl
named_known name (suc n) l h = rw (named_known name n l (λ k m. h k (omega arith)), h n (le_refl (suc n)))

-- ---- sums over a list in which each of n records' names stands once

pub record EachOnce (name : ℕ → ℕ) (n : ℕ) (l : List ℕ) : Type 0 where
  pub once : (a : ℕ) → seen name n a ≡ true → times a l ≡ 1

is_named : (name : ℕ → ℕ) (n a : ℕ) → has a (named name n []) ≡ seen name n a
unfolding has
is_named name n a = has_named name n [] a ∙ or-false (seen name n a)

-- the list of these names is one
pub names_once : (name : ℕ → ℕ) (n : ℕ) → EachOnce name n (named name n [])
names_once name n = record { once = λ a e. once_named name n [] once_none a ∙ rw (is_named name n a, e) }

module _ (g : ℕ → ℕ) (name : ℕ → ℕ) (n : ℕ) (none : (a : ℕ) → seen name n a ≡ false → g a ≡ 0) where
  -- a name's own number, found among the records' names
  own_number : (y : ℕ) → sum_of (λ x. cond (eqb y x) (g x) 0) (named name n []) ≡ g y
  own_number y =
      sum_same _ (λ x. cond (eqb y x) (g y) 0) (named name n []) (λ x. same x (eqb y x) refl)
      ∙ sum_at y (g y) (named name n [])
      ∙ rw (once_named name n [] once_none y, is_named name n y) (counted (seen name n y) refl)
    where
      same : (x : ℕ) (t : Bool) → eqb y x ≡ t → cond t (g x) 0 ≡ cond t (g y) 0
      same x true e = rw (eqb-true y x e)
      same x false e = refl

      counted : (t : Bool) → seen name n y ≡ t → cond t 1 0 * g y ≡ g y
      counted true e = one-mul (g y)
      counted false e = rw (none y e)

  -- a sum over any list is one over the records' names, each as often as it stands there
  by_times : (l : List ℕ) → sum_of g l ≡ sum_of (λ x. times x l * g x) (named name n [])
  unfolding sum_of times
  by_times [] = sym (sum_same _ (λ x. 0) (named name n []) (λ x. zero-mul (g x)) ∙ sum_none (named name n []))
  by_times (y ∷ l) =
      ap₂ ◌+◌ (sym (own_number y)) (by_times l)
      ∙ sym (sum_plus (λ x. cond (eqb y x) (g x) 0) (λ x. times x l * g x) (named name n []))
      ∙ sum_same _ _ (named name n []) (λ x. add x (eqb y x))
    where
      add : (x : ℕ) (t : Bool) → cond t (g x) 0 + times x l * g x ≡ (cond t 1 0 + times x l) * g x
      add x true = omega arith
      add x false = omega arith

  -- so where each stands once, it is the sum over the records' names
  pub sum_once : (l : List ℕ) → EachOnce name n l → sum_of g l ≡ sum_of g (named name n [])
  sum_once l o = by_times l ∙ sum_same _ g (named name n []) (λ x. by x (seen name n x) refl)
    where
      by : (x : ℕ) (t : Bool) → seen name n x ≡ t → times x l * g x ≡ g x
      by x true e = rw (o.once x e) (one-mul (g x))
      by x false e = rw (none x e) (omega arith)
