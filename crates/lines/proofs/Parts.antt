-- All lines of an account, the constraints' and then the contracts'; L is the book that test payments are settled by. Assumes nothing.
use Prim.Native.Nat.{ℕ}
use mathlib.Core.Path.{◌≡◌, refl}
use mathlib.Core.List.{List, ◌++◌}
use Rattle.book.specs.Book.{Book}
use Rattle.accounts.specs.Rows.{joined}
use Rattle.accounts.specs.declared.energies.OwnEnergies.{OwnEnergies}
use Rattle.statement.specs.declared.Line.{Line}
use Rattle.lines.specs.Inner.Walks.{con_lines_at, contract_lines_at, totals_from, own_from, book_lines}

module _ (B L : Book) (account : ℕ) (own : OwnEnergies) where
  abbrev pub con_part : List Line
  con_part = joined (con_lines_at B.entry B.constraint B.unit B.header.units account own.current) B.header.constraints

  abbrev pub paid_part : List Line
  paid_part = joined (contract_lines_at (totals_from B.entry L.entry) (own_from own) B.contract) B.header.contracts

  pub both_parts : book_lines B L account own ≡ con_part ++ paid_part
  unfolding book_lines
  both_parts = refl
