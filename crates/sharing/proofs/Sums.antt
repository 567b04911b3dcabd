-- Sums over lists, against sums of their parts. Assumes nothing.
use Prim.Native.Nat.{ℕ, ◌+◌, ◌*◌, ◌≤◌}
use mathlib.Core.Path.{◌≡◌, refl, sym, ap, ap₂, ◌∙◌}
use mathlib.Core.List.{List, [], ◌∷◌}
use native.Mathlib.Omega.{arith}
use native.Mathlib.Nat.{suc-mul, mul_comm, mul-zero}
use lib.IntN.{ℤ, pos, nat_abs, ◌+ℤ◌, ◌-ℤ◌}
use lib.ListN.{length}
use Rattle.numbers.specs.Sign.{less}
use Rattle.numbers.proofs.Sizes.{less_plus}
use Rattle.numbers.proofs.Signs.{sum_size}
use Rattle.numbers.proofs.Ring.{pairs}
use Rattle.accounts.specs.Rows.{sum_of, sum_z}

module _ {A : Type 0} where
  -- numbers that are equal
  pub sum_same : (f g : A → ℕ) (l : List A) → ((a : A) → f a ≡ g a) → sum_of f l ≡ sum_of g l
  unfolding sum_of
  sum_same f g [] h = refl
  sum_same f g (a ∷ l) h = ap₂ ◌+◌ (h a) (sum_same f g l h)

  -- two numbers for each element, summed together or each alone
  pub sum_plus : (f g : A → ℕ) (l : List A) → sum_of (λ a. f a + g a) l ≡ sum_of f l + sum_of g l
  unfolding sum_of
  sum_plus f g [] = refl
  sum_plus f g (a ∷ l) = omega (arith, sum_plus f g l)

  -- elements that add nothing
  pub sum_none : (l : List A) → sum_of (λ a. 0) l ≡ 0
  unfolding sum_of
  sum_none [] = refl
  sum_none (a ∷ l) = omega (arith, sum_none l)

  -- numbers up to b have a sum of at most b for each
  pub sum_bound : (f : A → ℕ) (b : ℕ) (l : List A) → ((a : A) → f a ≤ b) → sum_of f l ≤ length l * b
  unfolding sum_of
  sum_bound f b [] h = omega arith
  sum_bound f b (a ∷ l) h = rw suc-mul (omega (arith, h a, sum_bound f b l h))

  -- a multiple of each
  pub sum_times : (x : ℕ) (f : A → ℕ) (l : List A) → sum_of (λ a. x * f a) l ≡ x * sum_of f l
  unfolding sum_of
  sum_times x f [] = sym (mul-zero x)
  sum_times x f (a ∷ l) = omega (arith, sum_times x f l)

  pub times_sum : (f : A → ℕ) (x : ℕ) (l : List A) → sum_of (λ a. f a * x) l ≡ sum_of f l * x
  times_sum f x l = sum_same _ _ l (λ a. mul_comm (f a) x) ∙ sum_times x f l ∙ mul_comm x (sum_of f l)

  -- numbers with a sign that are equal
  pub signed_same : (f g : A → ℤ) (l : List A) → ((a : A) → f a ≡ g a) → sum_z f l ≡ sum_z g l
  unfolding sum_z
  signed_same f g [] h = refl
  signed_same f g (a ∷ l) h = ap₂ ◌+ℤ◌ (h a) (signed_same f g l h)

  -- differences
  pub signed_minus : (f g : A → ℤ) (l : List A) → sum_z (λ a. f a -ℤ g a) l ≡ sum_z f l -ℤ sum_z g l
  unfolding sum_z
  signed_minus f g [] = refl
  signed_minus f g (a ∷ l) = ap (λ (z : ℤ). f a -ℤ g a +ℤ z) (signed_minus f g l) ∙ pairs (f a) (g a) (sum_z f l) (sum_z g l)

  -- by what is credited and charged
  pub sum_less : (z : A → ℤ) (f g : A → ℕ) (l : List A) → ((a : A) → z a ≡ less (f a) (g a)) → sum_z z l ≡ less (sum_of f l) (sum_of g l)
  unfolding sum_z sum_of
  sum_less z f g [] h = refl
  sum_less z f g (a ∷ l) h = rw (h a, sum_less z f g l h) (less_plus (f a) (g a) (sum_of f l) (sum_of g l))

  -- of a size up to half of d
  pub signed_halves : (z : A → ℤ) (d : ℕ) (l : List A) → ((a : A) → 2 * nat_abs (z a) ≤ d) → 2 * nat_abs (sum_z z l) ≤ length l * d
  unfolding sum_z
  signed_halves z d [] h = omega arith
  signed_halves z d (a ∷ l) h = omega (arith, h a, signed_halves z d l h, sum_size (z a) (sum_z z l))

  -- and that are 0
  pub signed_none : (z : A → ℤ) (l : List A) → ((a : A) → z a ≡ pos 0) → sum_z z l ≡ pos 0
  unfolding sum_z
  signed_none z [] h = refl
  signed_none z (a ∷ l) h = rw (h a, signed_none z l h)
