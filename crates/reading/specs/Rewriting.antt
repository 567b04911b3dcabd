-- A statement written again. 01, The statement: "A read statement can be written again, header and lines in their order, into a lent buffer;
-- 14 is looked for first, then 13."
use Rattle.std.specs.Prelude.{ℕ, List}
use Rattle.statement.specs.Statement.{statement_bytes}
use Rattle.statement.specs.Lent.{Outcome}
use Rattle.parsing.specs.Parsing.{heading_at, lines_in}
use Rattle.reading.specs.Calls.{if_statement}

unfoldable pub rewritten : List ℕ → Outcome
rewritten s = if_statement s (statement_bytes (heading_at s) (lines_in s (heading_at s).lines))
