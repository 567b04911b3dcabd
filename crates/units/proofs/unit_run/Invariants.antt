-- `units::unit_run` meets its contract. The invariant, `Running`: the lines of the rows so far are out, and the rows before and behind lie on the right sides of the key. Assumes nothing.
use Rattle.units.proofs.UnitRuns.{Running}
use Rattle.records.specs.Rows.{unit_row}
use Rattle.units.proofs.unit_run.Given as goal

abbrev pub invariant-loop-u : goal.invariant-loop-u
invariant-loop-u l = Running (unit_row l.units) l.m l.account l.r l.p l.initial.buf l.initial.end l.buf l.u l.end
