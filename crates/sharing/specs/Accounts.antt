-- The accounts of a book, each once.
use Rattle.std.specs.Prelude.{ℕ, List, []}
use Rattle.records.specs.declared.rows.UnitRow.{UnitRow}
use Rattle.records.specs.declared.rows.EnergyRow.{EnergyRow}
use Rattle.sharing.specs.Once.{named}

abbrev pub energy_account : (ℕ → EnergyRow) → ℕ → ℕ
energy_account energy i = (energy i).account

abbrev pub unit_account : (ℕ → UnitRow) → ℕ → ℕ
unit_account unit u = (unit u).account

-- the accounts that energy rows and unit rows name, joined to those of a list that are not among them yet
abbrev pub accounts_with : (ℕ → EnergyRow) → ℕ → (ℕ → UnitRow) → ℕ → List ℕ → List ℕ
accounts_with energy n unit m l = named (unit_account unit) m (named (energy_account energy) n l)

-- 01, Balance: "all accounts (each that 11 lets pass)", and 11: "no unit row and no energy row names the account". Each stands once.
unfoldable pub accounts_in : (ℕ → EnergyRow) → ℕ → (ℕ → UnitRow) → ℕ → List ℕ
accounts_in energy n unit m = accounts_with energy n unit m []
