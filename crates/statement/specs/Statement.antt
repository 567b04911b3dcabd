-- The bytes of a statement. 01, The statement. Their laws stand in proofs/Lines.antt.
use Rattle.std.specs.Prelude.{ℕ, List, [], ◌∷◌, ◌++◌}
use Rattle.ground.specs.Le.{le16, le32, int64}
use Rattle.statement.specs.declared.Heading.{Heading}
use Rattle.statement.specs.declared.Line.{Line}

-- the three letters of the mark: "RCS"
unfoldable pub rcs : List ℕ
rcs = 82 ∷ 67 ∷ 83 ∷ []

-- a statement's header: "Header, 24 bytes: RCS; reserved byte; 16-bit version 1; interval, date and run as in the book;
-- line count u16; account u32; reserved u32."
unfoldable pub heading_bytes : Heading → List ℕ
heading_bytes h =
    rcs ++ (0 ∷ []) ++ le16 1 ++ le16 h.interval ++ le32 h.date ++ le16 h.run ++ le16 h.lines ++ le32 h.account ++ le32 0

-- a line: "lines of 24 bytes: id u32; part u8; regions u8; reserved u16; unit u32; reserved u32; amount i64."
unfoldable pub line_bytes : Line → List ℕ
line_bytes l =
    le32 l.id ++ (l.part ∷ []) ++ (l.regions ∷ []) ++ le16 0 ++ le32 l.unit ++ le32 0 ++ int64 l.amount

-- lines, one after the other: "Then lines of 24 bytes"
unfoldable pub lines_bytes : List Line → List ℕ
lines_bytes [] = []
lines_bytes (l ∷ ls) = line_bytes l ++ lines_bytes ls

-- a whole statement, its header and its lines: "Header, 24 bytes: .. Then lines of 24 bytes"
unfoldable pub statement_bytes : Heading → List Line → List ℕ
statement_bytes h ls = heading_bytes h ++ lines_bytes ls
