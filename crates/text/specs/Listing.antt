-- The listing program's text, from the bytes of its standard input. 01, Worked interval: "The listing program reads four little-endian bytes
-- of account and then a book from standard input." 02, Req 04: "The listing program lends no locked book."
use Rattle.std.specs.Prelude.{ℕ, cond, List, [], ltb, length}
use Rattle.ground.specs.Bytes.{u32_at, part_from}
use Rattle.statement.specs.Lent.{Outcome, refuses, gives}
use Rattle.parsing.specs.Parsing.{heading_at, lines_in}
use Rattle.settlement.specs.Settle.{outcome}
use Rattle.printing.specs.Printing.{refusal_text, statement_text}

-- what is said of an outcome of the statement call: the refusal, or what a reader reads in the statement's bytes
unfoldable pub outcome_text : Outcome → List ℕ
outcome_text (refuses number place) = refusal_text number place
outcome_text (gives xs) = statement_text (heading_at xs) (lines_in xs (heading_at xs).lines)

-- "Fewer than four input bytes count as account 0 and an empty book." And "An empty slice is no locked book".
unfoldable pub listing_of : List ℕ → List ℕ
listing_of input =
    cond (ltb (length input) 4) (outcome_text (outcome [] [] 0)) (outcome_text (outcome (part_from 4 input) [] (u32_at input 0)))
