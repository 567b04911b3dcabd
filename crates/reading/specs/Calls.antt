-- What the calls on a statement answer. 01, Refusals: 14 "bytes are not a statement", 15 "pool or line number past the end", each at place 0.
use Rattle.std.specs.Prelude.{ℕ, List, cond, leb, Result, Ok}
use Rattle.sections.specs.declared.Refusal.{Refusal}
use Rattle.sections.specs.Refusal.{refused}
use Rattle.statement.specs.declared.Heading.{Heading}
use Rattle.statement.specs.declared.Line.{Line}
use Rattle.statement.specs.Lent.{Outcome, refuses, gives}
use Rattle.parsing.specs.Parsing.{heading_at, line_at, is_statement}

unfoldable pub heading_read : List ℕ → Result Heading Refusal
heading_read s = cond (is_statement s) (Ok (heading_at s)) (refused 14 0)

-- "Asking for one line, numbered from 0, looks for 14, then 15."
unfoldable pub line_read : List ℕ → ℕ → Result Line Refusal
line_read s i = cond (is_statement s) (cond (leb (heading_at s).lines i) (refused 15 0) (Ok (line_at s i))) (refused 14 0)

-- what a call that writes xs of a statement into a lent buffer gives: "14 is looked for first, then 13"
abbrev pub if_statement : List ℕ → List ℕ → Outcome
if_statement s xs = cond (is_statement s) (gives xs) (refuses 14 0)
