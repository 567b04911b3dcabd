-- `sharing::shares::gather` meets its contract. The invariant, `Gathered`: the sum is what the rows so far of the account own. It ends at another account's row or behind the last, and either way no row of the account is left. Assumes nothing.
use Rattle.records.specs.Rows.{energy_row}
use Rattle.sharing.proofs.Groups.{Gathered}
use Rattle.sharing.proofs.shares.gather.Given as goal

abbrev pub invariant-loop-j : goal.invariant-loop-j
invariant-loop-j l = Gathered l.p (energy_row l.energy) l.n l.from l.account l.j l.own
