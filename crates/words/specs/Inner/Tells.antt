-- What a call answers that looks for a word.
use Rattle.std.specs.Prelude.{ℕ, ◌≡◌, List, Bool, true, false}
use Rattle.decimal.specs.Standing.{Stands}

-- whether xs stands in s at k
pub record Tells (xs s : List ℕ) (k : ℕ) (t : Bool) : Type 0 where
  pub yes : t ≡ true → Stands xs s k
  pub no : t ≡ false → Stands xs s k → ⊥
