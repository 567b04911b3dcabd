-- Whole numbers with their signs: sums, quotients that are rounded, and the smaller of 0 and a number.
use Rattle.std.specs.Prelude.{ℕ, zero, suc, ℤ, pos, negsuc, neg_ℤ, ◌+ℤ◌}
use Rattle.numbers.specs.Round.{round_z}
use Rattle.ground.specs.Units.{million}

-- x 0 + x 1 + .. + x (n - 1)
unfoldable pub sum : (ℕ → ℤ) → ℕ → ℤ
sum x zero = pos 0
sum x (suc n) = sum x n +ℤ x n

-- z / t: "Rounding takes a quotient to the nearest whole number, halves away from zero." Where t is below 0 both change their sign, for
-- "own and total are both negative, the share is not".
unfoldable pub round : ℤ → ℤ → ℤ
round z (pos t) = round_z z t
round z (negsuc t) = round_z (neg_ℤ z) (suc t)

-- "min(0, CF)". 002, FPP calculations: NCF = Min(0, CF)
unfoldable pub min0 : ℤ → ℤ
min0 (pos n) = pos 0
min0 (negsuc n) = negsuc n

-- "factors and usage in millionths"
abbrev pub whole_factor : ℤ
whole_factor = pos million
