-- Of a list of lines, those that a test keeps: how many they are, and what they credit and charge. Assumes nothing.
use Prim.Native.Nat.{ℕ, zero, suc, ◌+◌, ◌<◌}
use mathlib.Core.Path.{◌≡◌, refl, sym, ap, ap₂, ◌∙◌}
use mathlib.Core.Bool.{Bool, true, false, cond}
use mathlib.Core.List.{[], List, ◌∷◌, ◌++◌}
use mathlib.Core.Logic.{⊎_elim}
use native.Mathlib.Omega.{arith}
use native.Mathlib.Nat.{le_refl, le_of_suc-le-suc, not-suc-le-zero, eq-or-lt_of_le, add-zero, zero-add}
use lib.IntN.{ℤ, ◌+ℤ◌, +ℤ_idl, +ℤ_idr, +ℤ_assoc}
use lib.ListN.{length, length-append}
use Rattle.numbers.specs.Sign.{less}
use Rattle.numbers.proofs.Sizes.{less_plus}
use Rattle.sections.specs.Total.{total}
use Rattle.accounts.specs.Rows.{keep, joined, sum_z}
use Rattle.accounts.proofs.Lists.{keep_append}
use Rattle.statement.specs.declared.Line.{Line}

sum_append : {A : Type 0} (f : A → ℤ) (xs ys : List A) → sum_z f (xs ++ ys) ≡ sum_z f xs +ℤ sum_z f ys
unfolding sum_z
sum_append f [] ys = sym (+ℤ_idl (sum_z f ys))
sum_append f (x ∷ xs) ys = ap (λ (z : ℤ). f x +ℤ z) (sum_append f xs ys) ∙ sym (+ℤ_assoc (f x) (sum_z f xs) (sum_z f ys))

-- ---- of the lines ls the test t keeps n, and they sum to credit - charge

pub record Kept (t : Line → Bool) (ls : List Line) (n credit charge : ℕ) : Type 0 where
  pub lines : length (keep t ls) ≡ n
  pub sum : sum_z (λ (l : Line). l.amount) (keep t ls) ≡ less credit charge

module _ {t : Line → Bool} where
  pub kept_none : Kept t [] 0 0 0
  unfolding keep sum_z
  kept_none = record { lines = refl; sum = refl }

  -- a line that is kept, and one that is not
  pub kept_in : (l : Line) {c d : ℕ} → t l ≡ true → l.amount ≡ less c d → Kept t (l ∷ []) 1 c d
  unfolding keep sum_z
  kept_in l h e = record { lines = rw h; sum = rw h (+ℤ_idr l.amount ∙ e) }

  pub kept_out : (l : Line) {ls : List Line} {n c d : ℕ} → t l ≡ false → Kept t ls n c d → Kept t (l ∷ ls) n c d
  unfolding keep
  kept_out l h k = record { lines = rw h k.lines; sum = rw h k.sum }

  -- one list behind the other
  pub kept_append : {xs ys : List Line} {n m a b c d : ℕ} → Kept t xs n a b → Kept t ys m c d → Kept t (xs ++ ys) (n + m) (a + c) (b + d)
  kept_append {xs} {ys} {n} {m} {a} {b} {c} {d} h k =
      record {
        lines = rw (keep_append t xs ys, length-append, h.lines, k.lines);
        sum = rw (keep_append t xs ys) (sum_append (λ (l : Line). l.amount) (keep t xs) (keep t ys) ∙ ap₂ ◌+ℤ◌ h.sum k.sum ∙ less_plus a b c d);
      }

  -- of one of which nothing is kept
  pub kept_before : {xs ys : List Line} {n c d : ℕ} → Kept t xs n c d → Kept t ys 0 0 0 → Kept t (xs ++ ys) n c d
  kept_before h k = simp add-zero at (kept_append h k)

  pub kept_behind : {xs ys : List Line} {n c d : ℕ} → Kept t xs 0 0 0 → Kept t ys n c d → Kept t (xs ++ ys) n c d
  kept_behind h k = simp zero-add at (kept_append h k)

  -- either of two lists
  pub kept_either : (b : Bool) {xs ys : List Line} {n c d : ℕ} → Kept t xs n c d → Kept t ys n c d → Kept t (cond b xs ys) n c d
  kept_either true h k = h
  kept_either false h k = k

  -- none, or a list that credits nothing
  pub kept_unless : (b : Bool) {ls : List Line} {n d : ℕ} → Kept t ls n 0 d → Kept t (cond b [] ls) (cond b 0 n) 0 (cond b 0 d)
  kept_unless true h = kept_none
  kept_unless false h = h

  -- a list, where two tests hold
  pub kept_both : (a b : Bool) {ls : List Line} {n c d : ℕ} → Kept t ls n c d → Kept t (cond b (cond a ls []) []) (cond a (cond b n 0) 0) (cond a (cond b c 0) 0) (cond a (cond b d 0) 0)
  kept_both true true h = h
  kept_both true false h = kept_none
  kept_both false true h = kept_none
  kept_both false false h = kept_none

  module _ (f : ℕ → List Line) where
    -- many lists
    pub kept_joined : (n c d : ℕ → ℕ) (m : ℕ) → ((u : ℕ) → u < m → Kept t (f u) (n u) (c u) (d u)) → Kept t (joined f m) (total n m) (total c m) (total d m)
    unfolding joined total
    kept_joined n c d zero h = kept_none
    kept_joined n c d (suc m) h = kept_append (kept_joined n c d m (λ u l. h u (omega arith))) (h m (le_refl (suc m)))

    pub kept_nothing : (m : ℕ) → ((u : ℕ) → u < m → Kept t (f u) 0 0 0) → Kept t (joined f m) 0 0 0
    unfolding joined
    kept_nothing zero h = kept_none
    kept_nothing (suc m) h = kept_append (kept_nothing m (λ u l. h u (omega arith))) (h m (le_refl (suc m)))

    -- of all but one of which nothing is kept
    pub kept_only : (j m : ℕ) {n c d : ℕ} → j < m → ((u : ℕ) → u < m → (u ≡ j → ⊥) → Kept t (f u) 0 0 0) → Kept t (f j) n c d → Kept t (joined f m) n c d
    unfolding joined
    kept_only j zero l h k = absurd (not-suc-le-zero l)
    kept_only j (suc m) l h k =
        ⊎_elim
        (λ (e : j ≡ m). kept_behind (kept_nothing m (λ u i. h u (omega arith) (λ (q : u ≡ j). omega arith))) (rw e at k))
        (λ (i : j < m). kept_before (kept_only j m i (λ u v q. h u (omega arith) q) k) (h m (le_refl (suc m)) (λ (q : m ≡ j). omega arith)))
        (eq-or-lt_of_le (le_of_suc-le-suc l))
