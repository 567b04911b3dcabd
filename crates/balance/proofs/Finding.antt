-- The pool of a number, found by a walk over the constraints. Assumes nothing.
use Prim.Native.Nat.{ℕ, zero, suc, ◌+◌, ◌-◌, ◌≤◌, ◌<◌}
use mathlib.Core.Path.{◌≡◌, refl, ap, ◌∙◌}
use mathlib.Core.Bool.{Bool, true, false, cond}
use mathlib.Core.List.{[], List, ◌∷◌, ◌++◌, append_assoc, append-nil}
use mathlib.Core.Logic.{⊎_elim}
use Rattle.std.specs.Prelude.{None, Some}
use native.Mathlib.Omega.{arith}
use native.Mathlib.Nat.{add-zero, eq-or-lt_of_le, le_of_suc-le-suc, not-suc-le-zero}
use native.Mathlib.Numerals.{add-one}
use borrow.Author.Tests.{ne_eqb}
use lib.Dec.{eqb}
use lib.ListN.{length, length-append}
use Rattle.records.specs.declared.rows.Constraint.{Constraint}
use Rattle.records.specs.declared.rows.Contract.{Contract}
use Rattle.accounts.specs.Rows.{rows_of, concat_map}
use Rattle.accounts.proofs.Lists.{concat_append}
use Rattle.balance.specs.Pools.{Pool, past, constraint_pool, constraint_pools, contract_pool, pool_at}
use Rattle.balance.specs.Inner.Places.{KindIs, pools_over, PlaceIs}
use Rattle.balance.specs.Inner.Shapes.{belongs}
use Rattle.recovery.specs.declared.kinds.Kind.{Kind}
use Rattle.recovery.specs.declared.kinds.Kind.TheVariants.{Contingency, Fpp, Used, Unused}
use Rattle.balance.specs.declared.places.Place.TheVariants as place

-- ---- a constraint's own pools

pub three_pools : (r : Constraint) → r.mode ≡ 1 → 3 ≡ length (constraint_pools r)
unfolding constraint_pools
three_pools r e = rw e

pub one_pool : (r : Constraint) → (r.mode ≡ 1 → ⊥) → 1 ≡ length (constraint_pools r)
unfolding constraint_pools
one_pool r h = rw (ne_eqb r.mode 1 h) (by (eqb r.mode 0))
  where
    by : (t : Bool) → 1 ≡ length (cond t (constraint_pool r Contingency ∷ []) (constraint_pool r Unused ∷ []))
    by true = refl
    by false = refl

module _ (r : Constraint) (k : ℕ) (h : k < length (constraint_pools r)) where
  pub is_contingency : r.mode ≡ 0 → KindIs r k Contingency
  unfolding constraint_pools belongs pool_at
  is_contingency e = record { own = rw e; pool = rw e (let z : k ≡ 0 = omega (arith, rw e at h) in rw z) }

  pub is_fpp : r.mode ≡ 1 → k ≡ 0 → KindIs r k Fpp
  unfolding constraint_pools belongs pool_at
  is_fpp e z = record { own = rw e; pool = rw (e, z) }

  pub is_used : r.mode ≡ 1 → k ≡ 1 → KindIs r k Used
  unfolding constraint_pools belongs pool_at
  is_used e z = record { own = rw e; pool = rw (e, z) }

  pub third_unused : r.mode ≡ 1 → (k ≡ 0 → ⊥) → (k ≡ 1 → ⊥) → KindIs r k Unused
  unfolding constraint_pools belongs pool_at
  third_unused e f g = record { own = rw e; pool = rw e (let o : k ≡ 2 = omega (arith, rw e at h, f, g) in rw o) }

  pub only_unused : (r.mode ≡ 0 → ⊥) → (r.mode ≡ 1 → ⊥) → KindIs r k Unused
  unfolding constraint_pools belongs pool_at
  only_unused n d =
      let z = ne_eqb r.mode 0 n in
      let e = ne_eqb r.mode 1 d in
      record { own = rw z; pool = rw (z, e) (let o : k ≡ 0 = omega (arith, rw (z, e) at h) in rw o) }

-- ---- the pool of a number in a list

pub pool_first : (xs ys : List Pool) (k : ℕ) → k < length xs → pool_at (xs ++ ys) k ≡ pool_at xs k
unfolding pool_at
pool_first [] ys k h = absurd (not-suc-le-zero h)
pool_first (x ∷ xs) ys zero h = refl
pool_first (x ∷ xs) ys (suc k) h = pool_first xs ys k (le_of_suc-le-suc h)

pub pool_after : (xs ys : List Pool) (k : ℕ) → pool_at (xs ++ ys) (length xs + k) ≡ pool_at ys k
unfolding pool_at
pool_after [] ys k = let z : 0 + k ≡ k = omega arith in rw z
pool_after (x ∷ xs) ys k = let z : suc (length xs) + k ≡ suc (length xs + k) = omega arith in rw z (pool_after xs ys k)

pub pool_past : (xs : List Pool) (k : ℕ) → length xs ≤ k → pool_at xs k ≡ past
unfolding pool_at
pool_past [] k h = refl
pool_past (x ∷ xs) zero h = absurd (not-suc-le-zero h)
pool_past (x ∷ xs) (suc k) h = pool_past xs k (le_of_suc-le-suc h)

-- ---- what each row gives, one behind the other

module _ {A : Type 0} (f : A → List Pool) (row : ℕ → A) where
  one_more : (n : ℕ) → concat_map f (rows_of row (suc n)) ≡ concat_map f (rows_of row n) ++ f (row n)
  unfolding rows_of concat_map
  one_more n = concat_append f (rows_of row n) (row n ∷ []) ∙ rw append-nil

  -- a pool that row j gives
  pub at_row : (n j k : ℕ) (ys : List Pool) → j < n → k < length (f (row j)) → pool_at (concat_map f (rows_of row n) ++ ys) (length (concat_map f (rows_of row j)) + k) ≡ pool_at (f (row j)) k
  at_row zero j k ys l h = absurd (not-suc-le-zero l)
  at_row (suc n) j k ys l h =
      rw (one_more n, append_assoc)
      (⊎_elim
      (λ q. rw q (pool_after (concat_map f (rows_of row n)) (f (row n) ++ ys) k ∙ pool_first (f (row n)) ys k (rw q at h)))
      (λ m. at_row n j k (f (row n) ++ ys) m h)
      (eq-or-lt_of_le (le_of_suc-le-suc l)))

  pub length_more : (n : ℕ) → length (concat_map f (rows_of row (n + 1))) ≡ length (concat_map f (rows_of row n)) + length (f (row n))
  length_more n = rw (add-one, one_more n) (length-append (concat_map f (rows_of row n)) (f (row n)))

-- each contract gives one
abbrev of_contract : Contract → List Pool
of_contract k = contract_pool k ∷ []

contracts_length : (contract : ℕ → Contract) (c : ℕ) → length (concat_map of_contract (rows_of contract c)) ≡ c
unfolding rows_of concat_map
contracts_length contract zero = refl
contracts_length contract (suc c) = rw (one_more of_contract contract c, length-append, contracts_length contract c) (omega arith)

-- ---- the walk

-- the pools of the first j constraints are passed, and left is what the number has beyond them
pub record Looking (con : ℕ → Constraint) (n number left j : ℕ) : Type 0 where
  pub within : j ≤ n
  pub beyond : number ≡ length (concat_map constraint_pools (rows_of con j)) + left

module _ (con : ℕ → Constraint) (n number : ℕ) where
  pub look_start : Looking con n number number 0
  unfolding rows_of concat_map
  look_start = record { within = omega arith; beyond = omega arith }

  module _ (left j : ℕ) (l : Looking con n number left j) where
    module _ (b : j < n) (r : Constraint) (e : r ≡ con j) (pools : ℕ) (p : pools ≡ length (constraint_pools r)) where
      pub look_more : pools ≤ left → Looking con n number (left - pools) (j + 1)
      look_more h =
          record { within = omega arith; beyond = omega (arith, l.beyond, p, ap (λ (r : Constraint). length (constraint_pools r)) e, length_more constraint_pools con j) }

      pub found_kind : (c : ℕ) (kind : Kind) → left < pools → KindIs r left kind → PlaceIs con n c number (Some (place.Constraint j kind))
      unfolding PlaceIs
      found_kind c kind h k =
          let k = rw e at k in
          (b, (k.own, λ contract. rw l.beyond (at_row constraint_pools con n j left (concat_map of_contract (rows_of contract c)) b (omega (arith, h, p, ap (λ (r : Constraint). length (constraint_pools r)) e)) ∙ k.pool)))

    module _ (h : n ≤ j) (c : ℕ) where
      all_passed : (contract : ℕ → Contract) → pool_at (pools_over con n contract c) number ≡ pool_at (concat_map of_contract (rows_of contract c)) left
      all_passed contract =
          let o : j ≡ n = omega (arith, l.within) in
          rw (l.beyond, o) (pool_after (concat_map constraint_pools (rows_of con n)) (concat_map of_contract (rows_of contract c)) left)

      pub found_contract : left < c → PlaceIs con n c number (Some (place.Contract left))
      unfolding PlaceIs pool_at
      found_contract b =
          (b, λ contract. all_passed contract ∙ (rw (append-nil, contracts_length contract left, add-zero) at (at_row of_contract contract c left 0 [] b (omega arith))))

      pub found_past : c ≤ left → PlaceIs con n c number None
      unfolding PlaceIs
      found_past b = λ contract. all_passed contract ∙ pool_past (concat_map of_contract (rows_of contract c)) left (rw (contracts_length contract c) b)
