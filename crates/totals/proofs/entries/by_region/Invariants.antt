-- `totals::entries::by_region` meets its contract. The invariant: each place has the sum of its region over the rows so far. Assumes nothing.
use Rattle.records.specs.Rows.{energy_row}
use Rattle.totals.specs.Inner.Turns.{TotalsOf}
use Rattle.totals.proofs.entries.by_region.Given as goal

abbrev pub invariant-loop-i : goal.invariant-loop-i
invariant-loop-i l = TotalsOf (energy_row l.energy) l.i l.t
