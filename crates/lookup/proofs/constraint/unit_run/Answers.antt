-- `lookup::constraint::unit_run` meets its contract. The invariant, `Seeking`: the lines of the rows so far are passed, and the rows before and behind lie on the right sides of the key. Assumes nothing.
use Rattle.lookup.proofs.Units.{in_row, seek_start, seek_stop, seek_found, seek_more, seek_done}
use Rattle.lookup.proofs.constraint.unit_run.Goals as goal

pub loop-u-init : goal.loop-u-init
loop-u-init c = seek_start _ _ _ _ _ _ c.requires.stands

pub returns-then-q-r : goal.returns-then-q-r
returns-then-q-r c = seek_stop _ _ _ _ _ _ _ c.loop-u.invariant c.loop-u-test.true c.unit_row-q.ensures c.requires.walked c.if-q-r.true

pub unit_line-requires-clause-i_in_bounds : goal.unit_line-requires-clause-i_in_bounds
unit_line-requires-clause-i_in_bounds c = in_row _ _ _ c.lines_each-each.ensures.0 c.own_count-lines.ensures _ c.if-left-lines.true

pub returns-then-left-lines : goal.returns-then-left-lines
returns-then-left-lines c = seek_found _ _ _ _ _ _ _ c.loop-u.invariant c.loop-u-test.true c.unit_row-q.ensures c.if-q-r.false c.lines_each-each.ensures.0 c.own_count-lines.ensures c.if-left-lines.true c.unit_line.ensures

pub loop-u-preserved : goal.loop-u-preserved
loop-u-preserved c = seek_more _ _ _ _ _ _ _ c.loop-u.invariant c.loop-u-test.true c.unit_row-q.ensures c.if-q-r.false c.lines_each-each.ensures.0 c.own_count-lines.ensures c.if-left-lines.false

pub returns : goal.returns
returns c = seek_done _ _ _ _ _ _ _ c.loop-u.invariant c.loop-u-test.false
