-- One of an account's lines by its number, from 0.
use Rattle.std.specs.Prelude.{ℕ, List, Result, Ok, Err}
use Rattle.ground.specs.Nth.{Nth, found, past, nth}
use Rattle.statement.specs.declared.Line.{Line}

-- a line; or there are fewer, and what the number has beyond the last
unfoldable pub answer_of : Nth Line → Result Line ℕ
answer_of (found l) = Ok l
answer_of (past left) = Err left

-- the line of a number in a list
unfoldable pub numbered_in : List Line → ℕ → Result Line ℕ
numbered_in ls number = answer_of (nth ls number)
