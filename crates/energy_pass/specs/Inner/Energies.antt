-- The energy rows that a pass takes, and their sums. Only contracts of inner functions speak of these.
use Rattle.std.specs.Prelude.{ℕ, ◌+◌, ◌*◌, ◌<◌, ◌≡◌, Bool, true, ◌&&◌, eqb, leb, ltb}
use Rattle.sections.specs.Order.{rises_by}
use Rattle.rules.specs.Rules.{energy_below}
use Rattle.records.specs.declared.rows.EnergyRow.{EnergyRow}
use Rattle.totals.specs.Inner.Turns.{TotalsOf}
use Rattle.totals.specs.declared.entries.Totals.{Totals}

-- rows rise by account, then by region, where these numbers rise
abbrev pub account_region : EnergyRow → ℕ
account_region r = r.account * 4_294_967_296 + r.region

-- a row that holds after one of the key `before`, but for the limit of its energies
abbrev pub row_holds : ℕ → EnergyRow → Bool
row_holds before r =
    ltb before (account_region r) && leb r.region 4 && eqb r.spare 0 && leb r.race r.ace && leb r.rasoe r.asoe

-- row i holds by itself, with an account from 1, and is above the row before it
abbrev pub row_keeps : (ℕ → EnergyRow) → ℕ → Bool
row_keeps energy i = row_holds 4_294_967_295 (energy i) && rises_by energy_below energy i

-- each of n rows holds but for the limit of its energies
abbrev pub EachKeeps : (ℕ → EnergyRow) → ℕ → Type 0
EachKeeps energy n = (i : ℕ) → i < n → row_keeps energy i ≡ true

-- so it is of these rows, and t has their sums
pub record AllSummed (energy : ℕ → EnergyRow) (n : ℕ) (t : Totals) : Type 0 where
  pub each : EachKeeps energy n
  pub sums : TotalsOf energy n t
