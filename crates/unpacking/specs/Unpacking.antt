-- The lines of a statement handed out as numbers, all by one call: what a caller of C has as an array of fervolatro_fields. 14 is looked for
-- first, then 13.
use Rattle.std.specs.Prelude.{ℕ, List, [], ◌∷◌, ◌++◌}
use Rattle.ground.specs.Le.{le64, int64}
use Rattle.statement.specs.Lent.{Outcome}
use Rattle.statement.specs.declared.Line.{Line}
use Rattle.parsing.specs.Parsing.{heading_at, lines_in}
use Rattle.reading.specs.Calls.{if_statement}

-- a line: its five numbers in 64 bits each, 40 bytes
unfoldable pub fields_bytes : Line → List ℕ
fields_bytes l = le64 l.id ++ le64 l.part ++ le64 l.regions ++ le64 l.unit ++ int64 l.amount

-- lines, one after the other
unfoldable pub all_fields : List Line → List ℕ
all_fields [] = []
all_fields (l ∷ ls) = fields_bytes l ++ all_fields ls

unfoldable pub unpacked : List ℕ → Outcome
unpacked s = if_statement s (all_fields (lines_in s (heading_at s).lines))
