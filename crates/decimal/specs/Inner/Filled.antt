-- What a call leaves that writes the last digits of a number.
use Rattle.std.specs.Prelude.{ℕ, ◌/◌, ◌^◌, ◌≡◌, List}
use Rattle.ground.specs.Put.{put}
use Rattle.decimal.specs.Decimal.{last_digits}

-- b is l with the last n digits of x laid over it from k, and rest is what is left of x above them
pub record Filled (l : List ℕ) (k n x : ℕ) (b : List ℕ) (rest : ℕ) : Type 0 where
  pub bytes : b ≡ put l k (last_digits n x)
  pub left : rest ≡ x / 10 ^ n
