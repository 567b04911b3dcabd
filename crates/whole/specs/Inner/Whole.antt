-- The statement of an account as it is written: its lines are those of the walk (lines/specs/Inner/Walks.antt). Only contracts of inner functions
-- speak of these.
use Rattle.std.specs.Prelude.{ℕ, ◌+◌, ◌*◌, ◌≤◌, List, length}
use Rattle.ground.specs.Units.{most_lines}
use Rattle.accounts.specs.declared.energies.OwnEnergies.{OwnEnergies}
use Rattle.book.specs.Book.{Book}
use Rattle.statement.specs.Statement.{statement_bytes}
use Rattle.statement.specs.declared.Heading.{Heading}
use Rattle.statement.specs.declared.Line.{Line}
use Rattle.lines.specs.Inner.Walks.{book_lines}

-- there is room for the header and the lines, and the header can say how many they are
pub record Fits (ls : List Line) (n : ℕ) : Type 0 where
  pub few : length ls ≤ most_lines
  pub room : 24 + length ls * 24 ≤ n

-- the header, with the book's interval, date and run
abbrev pub heading_in : ℕ → Book → ℕ → Heading
heading_in account B n = record { account = account; date = B.header.date; interval = B.header.interval; run = B.header.run; lines = n }

-- the statement, from a book, the one that test payments are settled by, and the account's own energies in both
unfoldable pub whole_of : ℕ → Book → Book → OwnEnergies → List ℕ
whole_of account B L own = statement_bytes (heading_in account B (length (book_lines B L account own))) (book_lines B L account own)
