-- A number with a sign by its two sides.
use Rattle.std.specs.Prelude.{ℕ, ◌≡◌, ℤ, pos, neg_ℤ}

-- a number by its two sides: a is how far z lies above 0, and b how far below, so that one of them is 0
pub data Sides (z : ℤ) (a b : ℕ) : Type 0 where
  above : z ≡ pos a → b ≡ 0 → Sides z a b
  below : z ≡ neg_ℤ (pos b) → a ≡ 0 → Sides z a b
