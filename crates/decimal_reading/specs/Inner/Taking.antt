-- What the steps of a reader look for.
use Rattle.std.specs.Prelude.{ℕ, ◌+◌, ◌-◌, ◌<◌, ◌≡◌, List, Bool, not, ◌&&◌, ◌||◌, ltb, eqb, length}
use Rattle.std.specs.Bool.{beq}
use Rattle.ground.specs.Bytes.{byte_at}
use Rattle.decimal.specs.Standing.{Number}
use Rattle.decimal.specs.Inner.Digits.{value_from, Digits, Run, Whole, Fraction}

-- a first digit 0 with others behind it
abbrev pub spare_zero : ℕ → ℕ → Bool
spare_zero first n = eqb first 48 && ltb 1 n

-- above every number that is read
abbrev pub far : ℕ
far = 1_000_000_000_000_000_000

-- the digits at k, fewer than room, make x and end at e, with another byte behind them
pub record SumAt (s : List ℕ) (k room x e : ℕ) : Type 0 where
  pub run : Run s k e
  pub few : e < k + room
  pub inside : e < length s
  pub value : x ≡ value_from 0 s k (e - k)

-- a whole number is spelled so
pub record Front (s : List ℕ) (k room x e : ℕ) : Type 0 where
  pub whole : Whole s k far x e
  pub few : e < k + room
  pub inside : e < length s

-- d digits at k, read behind those of v, make x, and end stands behind them
pub record PlacesAt (s : List ℕ) (k v d end x e : ℕ) : Type 0 where
  pub digits : Digits s k d
  pub byte : byte_at s (k + d) ≡ end
  pub value : x ≡ value_from v s k d
  pub ends : e ≡ k + d + 1

-- x goes on from v, whose digits stand before k, and end stands behind it
pub record Rest (s : List ℕ) (k v d end x e : ℕ) : Type 0 where
  pub body : ℕ
  pub fraction : Fraction s k v d far x body
  pub byte : byte_at s body ≡ end
  pub ends : e ≡ body + 1

-- a number with d decimals, at most limit, is spelled from k on, and end stands behind it
pub record NumberThen (s : List ℕ) (k d limit end x e : ℕ) : Type 0 where
  pub body : ℕ
  pub number : Number s k d limit x body
  pub byte : byte_at s body ≡ end
  pub ends : e ≡ body + 1

-- whether a minus, 45, stands in s at k, of a number that is at most 0
abbrev pub is_minus : Bool → List ℕ → ℕ → Bool
is_minus charge s k = charge && eqb (byte_at s k) 45

-- whether a size has the sign that it must have: of a charge, a minus unless it is 0
abbrev pub is_sided : Bool → Bool → ℕ → Bool
is_sided charge minus x = not charge || not (beq minus (eqb x 0))
