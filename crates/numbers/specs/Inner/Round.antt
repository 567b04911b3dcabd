-- What rounding comes to, with no quotient in it, and what it asks for.
use Rattle.std.specs.Prelude.{ℕ, ◌+◌, ◌*◌, ◌/◌, ◌≤◌, ◌<◌, ◌^◌}

-- r is the whole number nearest to n / d, a half up: r - 1/2 ≤ n / d < r + 1/2, with no quotient in it
pub record Nearest (n d r : ℕ) : Type 0 where
  pub low : 2 * d * r ≤ 2 * n + d
  pub high : 2 * n + d < 2 * d * (r + 1)

-- with half of d added n fits, and what is cut off fits with its sign
pub record Roundable (n d : ℕ) : Type 0 where
  pub above : 0 < d
  pub small : d < 2 ^ 63
  pub fits : n + d / 2 < 2 ^ 64
