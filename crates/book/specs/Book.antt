-- A book as its header and its records.
use Rattle.std.specs.Prelude.{ℕ, List}
use Rattle.ground.specs.Bytes.{part_from}
use Rattle.records.specs.Rows.{entry_row, constraint_row, unit_row, energy_row, contract_row}
use Rattle.records.specs.declared.rows.Entry.{Entry}
use Rattle.records.specs.declared.rows.Constraint.{Constraint}
use Rattle.records.specs.declared.rows.UnitRow.{UnitRow}
use Rattle.records.specs.declared.rows.EnergyRow.{EnergyRow}
use Rattle.records.specs.declared.rows.Contract.{Contract}
use Rattle.book.specs.declared.header.Header.{Header}
use Rattle.book.specs.Header.{header_of, units_from, energies_from, contracts_from}

-- entry g of region g, and record i of each section; the header has how many there are
pub record Book : Type 0 where
  pub header : Header
  pub entry : ℕ → Entry
  pub constraint : ℕ → Constraint
  pub unit : ℕ → UnitRow
  pub energy : ℕ → EnergyRow
  pub contract : ℕ → Contract

-- the book that stands in bytes, by a header that says where its sections start
abbrev pub book_in : List ℕ → Header → Book
book_in b h =
    record {
      header = h;
      entry = entry_row (part_from 24 b);
      constraint = constraint_row (part_from 84 b);
      unit = unit_row (part_from (units_from h) b);
      energy = energy_row (part_from (energies_from h) b);
      contract = contract_row (part_from (contracts_from h) b);
    }

-- by its own header
abbrev pub book_of : List ℕ → Book
book_of b = book_in b (header_of b)
