-- Rounding, and what it cuts off. 01, The amounts: "Rounding takes a quotient to the nearest whole number, halves away from zero."
-- 02, Req 06: "Let the rounding operation answer what it cut off, as a signed numerator (exact less rounded) over its divisor, beside the whole
-- number."
use Rattle.std.specs.Prelude.{ℕ, ◌+◌, ◌*◌, ◌/◌, ◌≡◌, ℤ, pos, nat_abs, ◌-ℤ◌, ◌*ℤ◌}
use Rattle.numbers.specs.Sign.{signed, negative}
use Rattle.numbers.specs.declared.round.Rounded.{Rounded}

-- n / d to the nearest whole number, a half up
abbrev pub round_n : ℕ → ℕ → ℕ
round_n n d = (2 * n + d) / (2 * d)

-- of a number with a sign: its size is rounded, and the sign kept, so that a half goes away from zero
abbrev pub round_z : ℤ → ℕ → ℤ
round_z z d = signed (negative z) (round_n (nat_abs z) d)

-- what rounding z / d cut off, over d: z less d times the rounded number
abbrev pub cut_z : ℤ → ℕ → ℤ
cut_z z d = z -ℤ round_z z d *ℤ pos d

-- of a size
abbrev pub cut_n : ℕ → ℕ → ℤ
cut_n n d = cut_z (pos n) d

-- n / d as rounded, and what that cut off
pub record Rounds (n d : ℕ) (r : Rounded) : Type 0 where
  pub whole : r.whole ≡ round_n n d
  pub cut : r.cut ≡ cut_n n d
