-- The element of a number in a list: in one of two lists that stand one behind the other, and past the end. Assumes nothing.
use Prim.Native.Nat.{ℕ, zero, suc, ◌+◌, ◌-◌, ◌≤◌}
use mathlib.Core.Path.{◌≡◌, refl, ap, ◌∙◌}
use mathlib.Core.List.{List, [], ◌∷◌, ◌++◌}
use native.Mathlib.Omega.{arith}
use native.Mathlib.Nat.{le_of_suc-le-suc, not-suc-le-zero}
use lib.ListN.{length}
use Rattle.sections.proofs.Cases.{zero_one}
use Rattle.ground.specs.Nth.{Nth, found, past, nth}

-- where the number lies past the first of two lists, the second is asked for what is left
unfoldable pub onward : {A : Type 0} → Nth A → (ℕ → Nth A) → Nth A
onward (found x) f = found x
onward (past i) f = f i

found_not_past : {A : Type 0} (x : A) (k : ℕ) → found x ≡ past k → ⊥
found_not_past x k e = zero_one cc

module _ {A : Type 0} where
  pub nth_append : (xs ys : List A) (i : ℕ) → nth (xs ++ ys) i ≡ onward (nth xs i) (nth ys)
  unfolding nth onward
  nth_append [] ys i = refl
  nth_append (x ∷ xs) ys zero = refl
  nth_append (x ∷ xs) ys (suc i) = nth_append xs ys i

  -- an element of the first
  pub nth_front : (xs ys : List A) (i : ℕ) {x : A} → nth xs i ≡ found x → nth (xs ++ ys) i ≡ found x
  unfolding onward
  nth_front xs ys i e = nth_append xs ys i ∙ rw e

  -- past the first, the second decides
  pub nth_behind : (xs ys : List A) (i : ℕ) {k : ℕ} → nth xs i ≡ past k → nth (xs ++ ys) i ≡ nth ys k
  unfolding onward
  nth_behind xs ys i e = nth_append xs ys i ∙ rw e

  -- a number past the end
  pub nth_past : (xs : List A) (i : ℕ) → length xs ≤ i → nth xs i ≡ past (i - length xs)
  unfolding nth
  nth_past [] i h = let e : i ≡ i - 0 = omega arith in ap past e
  nth_past (x ∷ xs) zero h = absurd (not-suc-le-zero h)
  nth_past (x ∷ xs) (suc i) h =
      let e : i - length xs ≡ suc i - suc (length xs) = omega arith in
      nth_past xs i (le_of_suc-le-suc h) ∙ ap past e

  -- what is left of it is what it has beyond the length
  pub past_length : (xs : List A) (i : ℕ) {k : ℕ} → nth xs i ≡ past k → i ≡ length xs + k
  unfolding nth
  past_length [] i {k} e = past_same i k e
    where
      past_left : Nth A → ℕ
      past_left (found x) = 0
      past_left (past k) = k

      past_same : (i k : ℕ) → ◌≡◌ {A = Nth A} (past i) (past k) → i ≡ 0 + k
      past_same i k e = let f : i ≡ k = ap past_left e in omega arith
  past_length (x ∷ xs) zero {k} e = absurd (found_not_past x k e)
  past_length (x ∷ xs) (suc i) {k} e = omega (arith, past_length xs i e)
