-- `sharing::shares::over_accounts` meets its contract. The invariant, `Making`: the rows so far are whole accounts, and of each one a call was made. The measure is what is left. Assumes nothing.
use Prim.Native.Nat.{◌-◌}
use Rattle.records.specs.Rows.{energy_row}
use Rattle.sharing.proofs.Groups.{Making}
use Rattle.sharing.proofs.shares.over_accounts.Given as goal

abbrev pub invariant-loop-i : goal.invariant-loop-i
invariant-loop-i g l = Making l.p (energy_row l.energy) l.n (goal.F-post g l.add) l.fn.start l.i l.made

abbrev pub decreases-loop-i : goal.decreases-loop-i
decreases-loop-i g l = l.n - l.i
