-- `lookup::constraint::unit_run` meets its contract. The invariant, `Seeking`: the lines of the rows so far are passed, and the rows before and behind lie on the right sides of the key. Assumes nothing.
use Rattle.records.specs.Rows.{unit_row}
use Rattle.lookup.proofs.Units.{Seeking}
use Rattle.lookup.proofs.constraint.unit_run.Given as goal

abbrev pub invariant-loop-u : goal.invariant-loop-u
invariant-loop-u l = Seeking (unit_row l.units) l.m l.a.account l.r l.a.number l.left l.u
