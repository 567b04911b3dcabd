-- `census::grown_accounts` meets its contract. The invariant: the count is the number of accounts of the unit rows and the energy rows so far. The tree stays as the unit rows left it. Assumes nothing.
use mathlib.Core.Path.{◌≡◌}
use mathlib.Core.List.{[]}
use lib.ListN.{length}
use Rattle.records.specs.Rows.{energy_row, unit_row}
use Rattle.sharing.specs.Once.{named}
use Rattle.sharing.specs.Accounts.{energy_account, unit_account}
use Rattle.census.proofs.grown_accounts.Given as goal

abbrev pub invariant-loop-i : goal.invariant-loop-i
invariant-loop-i l = l.count ≡ length (named (energy_account (energy_row l.energy)) l.i (named (unit_account (unit_row l.units)) l.m []))
