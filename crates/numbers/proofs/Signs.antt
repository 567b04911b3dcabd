-- Whole numbers by their sign and size, and what 64 bits hold of them. Assumes nothing.
use Prim.Native.Nat.{ℕ, zero, suc, ◌+◌, ◌-◌, ◌*◌, ◌≤◌, ◌<◌, ◌^◌}
use mathlib.Core.Path.{◌≡◌, refl, sym, subst}
use mathlib.Core.Bool.{Bool, true, false, cond}
use native.Mathlib.Omega.{arith}
use lib.Dec.{T, ltb, ltb→lt}
use lib.IntN.{ℤ, pos, negsuc, neg_ℤ, nat_abs, sub_ℕ, ◌+ℤ◌, ◌-ℤ◌, ◌*ℤ◌}
use mir.Syntax.{w64}
use mir.Val.{SFits}
use Rattle.numbers.specs.Sign.{signed}

pub size_signed : (b : Bool) (n : ℕ) → nat_abs (signed b n) ≡ n
size_signed true zero = refl
size_signed true (suc n) = refl
size_signed false n = refl

pub size_negated : (z : ℤ) → nat_abs (neg_ℤ z) ≡ nat_abs z
size_negated (pos zero) = refl
size_negated (pos (suc n)) = refl
size_negated (negsuc n) = refl

-- a number of a size below 2 ^ 63 is one of 64 bits
pub sized : (z : ℤ) → nat_abs z < 2 ^ 63 → SFits w64 z
sized (pos n) h = record { sfits = h }
sized (negsuc n) h = record { sfits = omega arith }

sub_size : (a b : ℕ) → nat_abs (sub_ℕ a b) ≤ a + b
sub_size a b = by (ltb a b) refl
  where
    by : (t : Bool) → ltb a b ≡ t → nat_abs (cond t (negsuc (b - suc a)) (pos (a - b))) ≤ a + b
    by true e = omega (arith, ltb→lt a b (subst T (sym e) tt))
    by false e = omega arith

-- a sum is no larger than its parts
pub sum_size : (a b : ℤ) → nat_abs (a +ℤ b) ≤ nat_abs a + nat_abs b
sum_size (pos a) (pos b) = omega arith
sum_size (pos a) (negsuc b) = sub_size a (suc b)
sum_size (negsuc a) (pos b) = omega (arith, sub_size b (suc a))
sum_size (negsuc a) (negsuc b) = omega arith

-- nor is a difference
pub minus_size : (a b : ℤ) → nat_abs (a -ℤ b) ≤ nat_abs a + nat_abs b
minus_size a b = omega (arith, sum_size a (neg_ℤ b), size_negated b)

-- that of a multiple is the multiple
pub size_times : (x : ℤ) (t : ℕ) → nat_abs (x *ℤ pos t) ≡ nat_abs x * t
size_times (pos n) t = refl
size_times (negsuc n) t = size_negated (pos (suc n * t))
