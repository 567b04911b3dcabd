-- `recovery::units::over_rows` meets its contract. The invariant, `Running`: of each of the constraint's rows so far a call was made. Assumes nothing.
use Rattle.records.specs.Rows.{unit_row}
use Rattle.recovery.proofs.UnitTurns.{Running}
use Rattle.recovery.proofs.units.over_rows.Given as goal

abbrev pub invariant-loop-u : goal.invariant-loop-u
invariant-loop-u g l = Running (unit_row l.units) l.m l.id (goal.F-post g l.add) l.fn.start l.u l.made
