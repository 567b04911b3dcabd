-- Small facts that many proofs come to: 0 is not 1, a number is 0 or is not, answers that are equal, a choice between equals, and a fact of each of
-- the five regions. Assumes nothing.
use Prim.Native.Nat.{ℕ, zero, suc, ◌<◌}
use mathlib.Core.Path.{◌≡◌, refl, sym}
use mathlib.Core.Bool.{Bool, true, false, cond}
use mathlib.Core.Logic.{◌⊎◌, inl, inr}
use native.Mathlib.Omega.{arith}

-- where constructors that differ are said to be equal, `cc` shows that 0 is 1
pub zero_one : ◌≡◌ {A = ℕ} 0 1 → ⊥
zero_one z = omega arith

pub is_zero : (n : ℕ) → (n ≡ 0) ⊎ (n ≡ 0 → ⊥)
is_zero zero = inl refl
is_zero (suc n) = inr (λ (e : suc n ≡ 0). omega arith)

-- two answers that are yes where the other is
pub same_answer : (a b : Bool) → (a ≡ true → b ≡ true) → (b ≡ true → a ≡ true) → a ≡ b
same_answer true b f g = sym (f refl)
same_answer false true f g = g refl
same_answer false false f g = refl

-- a test that cannot hold
pub never_holds : (b : Bool) → (b ≡ true → ⊥) → false ≡ b
never_holds true f = absurd (f refl)
never_holds false f = refl

-- no is not yes
pub no_yes : {b : Bool} → b ≡ false → b ≡ true → ⊥
no_yes e q = zero_one cc

-- a choice between equals
pub cond_same : {A : Type 0} (t : Bool) (x : A) → cond t x x ≡ x
cond_same true x = refl
cond_same false x = refl

-- what holds of each of the five regions
pub five : (P : ℕ → Type 0) → P 0 → P 1 → P 2 → P 3 → P 4 → (g : ℕ) → g < 5 → P g
five P a b c d e zero l = a
five P a b c d e (suc zero) l = b
five P a b c d e (suc (suc zero)) l = c
five P a b c d e (suc (suc (suc zero))) l = d
five P a b c d e (suc (suc (suc (suc zero)))) l = e
five P a b c d e (suc (suc (suc (suc (suc g))))) l = absurd (omega arith)
