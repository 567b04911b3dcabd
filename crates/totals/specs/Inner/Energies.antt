-- A book's energies, which are handed on together: its region entries and its energy rows.
use Rattle.std.specs.Prelude.{ℕ, ◌+◌, ◌*◌, ◌≤◌, ◌<◌, List, length}
use Rattle.ground.specs.Bytes.{part_from}
use Rattle.sections.specs.Inner.Order.{PairsRise}
use Rattle.records.specs.Rows.{entry_row, energy_row}
use Rattle.rules.specs.Inner.Facts.{EntryRule, EnergyRule}
use Rattle.records.specs.declared.rows.Entry.{Entry}
use Rattle.records.specs.declared.rows.EnergyRow.{EnergyRow}
use Rattle.totals.specs.Sums.{sum_in}
use Rattle.totals.specs.Inner.Facts.{SumsTo}
use Rattle.totals.specs.declared.entries.EnergyPart.{EnergyPart}

-- entry g of region g, and the energy rows
pub record Energies : Type 0 where
  pub entry : ℕ → Entry
  pub row : ℕ → EnergyRow
  pub rows : ℕ

-- those that stand in bytes which the region entries begin
abbrev pub energies_in : List ℕ → EnergyPart → Energies
energies_in s p = record { entry = entry_row s; row = energy_row (part_from p.from s); rows = p.rows }

-- they lie within the bytes
pub record PartLaid (s : List ℕ) (p : EnergyPart) : Type 0 where
  pub entries : 60 ≤ length s
  pub rows : p.from + p.rows * 24 ≤ length s

-- they keep checks 5, 6 and 9
pub record EnergiesSound (E : Energies) : Type 0 where
  pub few : E.rows ≤ 1024
  pub entries : (g : ℕ) → g < 5 → EntryRule (E.entry g)
  pub rules : (i : ℕ) → i < E.rows → EnergyRule (E.row i)
  pub order : PairsRise (λ i. (E.row i).account) (λ i. (E.row i).region) E.rows
  pub sums : (g : ℕ) → g < 5 → SumsTo (E.entry g) (sum_in E.row E.rows g)
