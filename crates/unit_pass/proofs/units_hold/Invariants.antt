-- `unit_pass::units_hold` meets its contract. The invariant, `Exactly`: the constraints so far and the rows before the cursor keep all rules, where only those rows count, and where all rows keep them none behind the cursor is of these constraints. Assumes nothing.
use Rattle.records.specs.Rows.{constraint_row, unit_row}
use Rattle.unit_pass.proofs.Ahead.{Exactly}
use Rattle.unit_pass.proofs.units_hold.Given as goal

abbrev pub invariant-loop-j : goal.invariant-loop-j
invariant-loop-j l = Exactly (constraint_row l.cons) l.n (unit_row l.units) l.m l.j l.u
