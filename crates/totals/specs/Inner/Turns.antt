-- The sums of energy rows by region, row by row. Only contracts of inner functions speak of these.
use Rattle.std.specs.Prelude.{ℕ, ◌+◌, ◌≤◌, ◌≡◌, List, get_or, set}
use Rattle.sections.specs.Inner.Walk.{Split}
use Rattle.market.specs.declared.Basis.{Basis}
use Rattle.records.specs.declared.rows.EnergyRow.{EnergyRow}
use Rattle.totals.specs.Sums.{region_of, row_by, energy_of}
use Rattle.totals.specs.Inner.Totals.{sums_by, sum_at}
use Rattle.totals.specs.declared.entries.Totals.{Totals}

-- of each kind, the sums by region over the first i energy rows, of which row j counts for `counts b j`
pub record SumsOf (energy : ℕ → EnergyRow) (counts : Basis → ℕ → ℕ) (i : ℕ) (t : Totals) : Type 0 where
  pub each : (b : Basis) → Split 5 (region_of energy) (counts b) i (sums_by b t)

-- over all of the first i rows
abbrev pub TotalsOf : (ℕ → EnergyRow) → ℕ → Totals → Type 0
TotalsOf energy i t = SumsOf energy (λ b. energy_of b energy) i t

-- region g's sums have room for a row, whatever its energies: 1,024 times twice a number of 32 bits
pub record SumRoom (t : Totals) (g : ℕ) : Type 0 where
  pub each : (b : Basis) → sum_at t g b ≤ 8_796_093_022_208

-- x more at place g
abbrev pub with_more : List ℕ → ℕ → ℕ → List ℕ
with_more l g x = set l g (get_or l g 0 + x)

-- the sums with a row more in region g
pub record Added (t : Totals) (g : ℕ) (r : EnergyRow) (x : Totals) : Type 0 where
  pub each : (b : Basis) → sums_by b x ≡ with_more (sums_by b t) g (row_by b r)
