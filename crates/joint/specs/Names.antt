-- The rows of a book that name its accounts, and the accounts of two books together.
use Rattle.std.specs.Prelude.{ℕ, List}
use Rattle.ground.specs.Bytes.{part_from}
use Rattle.records.specs.Rows.{energy_row, unit_row}
use Rattle.records.specs.declared.rows.UnitRow.{UnitRow}
use Rattle.records.specs.declared.rows.EnergyRow.{EnergyRow}
use Rattle.sharing.specs.Accounts.{accounts_in, accounts_with}
use Rattle.joint.specs.declared.NamingRows.{NamingRows}

-- a book's energy rows and its unit rows, where they stand in its bytes
abbrev pub energies_of : List ℕ → NamingRows → ℕ → EnergyRow
energies_of bytes p = energy_row (part_from p.energies bytes)

abbrev pub units_of : List ℕ → NamingRows → ℕ → UnitRow
units_of bytes p = unit_row (part_from p.units bytes)

-- the accounts that they name, each once
abbrev pub accounts_of : List ℕ → NamingRows → List ℕ
accounts_of bytes p = accounts_in (energies_of bytes p) p.n (units_of bytes p) p.m

-- the accounts of a book, and those of the locked book that are not among them
abbrev pub accounts_of_both : List ℕ → NamingRows → List ℕ → NamingRows → List ℕ
accounts_of_both book p locked q = accounts_with (energies_of locked q) q.n (units_of locked q) q.m (accounts_of book p)
