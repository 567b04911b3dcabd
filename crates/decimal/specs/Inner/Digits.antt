-- The parts of a number where it stands in a text: its digits, what is before the point, and what is behind.
use Rattle.std.specs.Prelude.{ℕ, zero, suc, ◌+◌, ◌-◌, ◌*◌, ◌/◌, ◌^◌, ◌≤◌, ◌<◌, ◌≡◌, List, true, false, length}
use Rattle.ground.specs.Bytes.{byte_at}
use Rattle.decimal.specs.Decimal.{decimal_of, point_text}
use Rattle.decimal.specs.Standing.{is_digit, Field}

-- the number whose digits are those of v and then the n bytes from place k
unfoldable pub value_from : ℕ → List ℕ → ℕ → ℕ → ℕ
value_from v s k zero = v
value_from v s k (suc n) = 10 * value_from v s k n + (byte_at s (k + n) - 48)

-- n digits stand in s from place k
pub record Digits (s : List ℕ) (k n : ℕ) : Type 0 where
  pub within : k + n ≤ length s
  pub each : (i : ℕ) → i < n → is_digit (byte_at s (k + i)) ≡ true

-- the digits that start at k end at e
pub record Run (s : List ℕ) (k e : ℕ) : Type 0 where
  pub start : k ≤ e
  pub within : e ≤ length s
  pub each : (i : ℕ) → k ≤ i → i < e → is_digit (byte_at s i) ≡ true
  pub stop : is_digit (byte_at s e) ≡ false

-- a whole number, at most limit, is spelled from k to e
pub record Whole (s : List ℕ) (k limit x e : ℕ) : Type 0 where
  pub small : x ≤ limit
  pub field : Field (decimal_of x) s k e

-- x goes on from v, whose digits stand before k: a point and d digits
pub record Fraction (s : List ℕ) (k v d limit x e : ℕ) : Type 0 where
  pub small : x ≤ limit
  pub above : x / 10 ^ d ≡ v
  pub field : Field (point_text d x) s k e
