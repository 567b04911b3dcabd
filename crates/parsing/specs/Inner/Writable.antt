-- What written bytes need so that they are read back: a header and lines in range, whose numbers fit the bytes that they take.
use Rattle.std.specs.Prelude.{ℕ, ◌<◌, ◌^◌, ◌≡◌, true}
use Rattle.statement.specs.declared.Heading.{Heading}
use Rattle.statement.specs.declared.Line.{Line}
use Rattle.parsing.specs.Parsing.{heading_ok, line_ok}

-- a header of n lines: "account u32"
pub record WritableHeading (h : Heading) (n : ℕ) : Type 0 where
  pub ok : heading_ok h ≡ true
  pub account : h.account < 2 ^ 32
  pub count : h.lines ≡ n

-- a line: "id u32; .. unit u32"
pub record WritableLine (l : Line) : Type 0 where
  pub ok : line_ok l ≡ true
  pub id : l.id < 2 ^ 32
  pub unit : l.unit < 2 ^ 32
