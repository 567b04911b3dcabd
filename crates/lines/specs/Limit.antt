-- The most that a line can be, and 01, Refusals, 12: "a line would pass 50,000,000,000 either way".
use Rattle.std.specs.Prelude.{◌≤◌, Bool, false, ◌||◌, List, [], ◌∷◌, ltb, nat_abs}
use Rattle.ground.specs.Units.{money_limit}
use Rattle.statement.specs.declared.Line.{Line}

-- a line within the limit, either way
pub record WithinLimit (l : Line) : Type 0 where
  pub small : nat_abs l.amount ≤ money_limit

-- whether a line passes the limit
abbrev pub passes_limit : Line → Bool
passes_limit l = ltb money_limit (nat_abs l.amount)

-- whether one of them does
unfoldable pub any_over : List Line → Bool
any_over [] = false
any_over (l ∷ ls) = passes_limit l || any_over ls
