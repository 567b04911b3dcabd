-- What a reader answers: a value and its end, or nothing.
use Rattle.std.specs.Prelude.{ℕ, Option, MatchOption}
use Rattle.decimal_reading.specs.declared.Taken.{Taken}

-- an answer that finds what is there: a value that it has is there and ends at next; where it has none, no value is there. It says what Decides says
-- (decimal's Standing), good being that there is a value (proofs/Answered.antt).
abbrev pub Reads : (ℕ → ℕ → Type 0) → Option Taken → Type 0
Reads There r = MatchOption r ((x e : ℕ) → There x e → ⊥) (λ t. There t.value t.next)
