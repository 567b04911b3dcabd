-- `count::row_by_row` meets its contract. The invariant, `MetAt`: the lines of the rows so far are counted, and no id before the cursor is as large as a later row's key. Assumes nothing.
use Rattle.records.specs.Rows.{constraint_row, unit_row}
use Rattle.count.specs.Inner.Counts.{MetAt}
use Rattle.count.proofs.row_by_row.Given as goal

abbrev pub invariant-loop-u : goal.invariant-loop-u
invariant-loop-u l = MetAt (constraint_row l.cons) l.n (unit_row l.units) l.m l.account l.u l.met
