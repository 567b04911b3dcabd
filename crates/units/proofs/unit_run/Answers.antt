-- `units::unit_run` meets its contract. The invariant, `Running`: the lines of the rows so far are out, and the rows before and behind lie on the right sides of the key. Assumes nothing.
use Rattle.units.proofs.UnitRuns.{running_start, running_room, running_more, running_stop}
use Rattle.units.proofs.unit_run.Goals as goal

pub loop-u-init : goal.loop-u-init
loop-u-init c = running_start _ _ _ _ _ _ c.requires.stands

pub returns-then-q-r : goal.returns-then-q-r
returns-then-q-r c = running_stop _ _ _ _ _ _ c.loop-u.invariant c.loop-u-test.true c.unit_row-q.ensures c.requires.walked c.if-q-r.true

pub own_unit-end-requires-clause-line_room : goal.own_unit-end-requires-clause-line_room
own_unit-end-requires-clause-line_room c = running_room _ _ _ _ _ _ c.loop-u.invariant c.loop-u-test.true c.unit_row-q.ensures c.if-q-r.false c.requires.line_room

pub loop-u-preserved : goal.loop-u-preserved
loop-u-preserved c = running_more _ _ _ _ _ _ c.loop-u.invariant c.loop-u-test.true c.unit_row-q.ensures c.if-q-r.false c.own_unit-end.ensures
