-- `dispatch::last_sum` meets its contract. The invariant: the rows passed so far, with those before them, come to the last row's sum.
-- Assumes nothing.
use native.Mathlib.Omega.{arith}
use Rattle.dispatch.proofs.Turns.{last_limit}
use Rattle.dispatch.proofs.Last.{back_start, back_more, back_stop, back_all}
use Rattle.dispatch.proofs.last_sum.Goals as goal

pub loop-j-init : goal.loop-j-init
loop-j-init c = back_start _ _

pub returns-then-key : goal.returns-then-key
returns-then-key c = back_stop _ _ _ c.requires.i_value c.loop-j.invariant c.loop-j-test.true c.dispatch_row-r.ensures c.key.ensures c.last_key-key.ensures c.if-key.true

pub overflow_add-run : goal.overflow_add-run
overflow_add-run c = omega (arith, (back_more _ _ _ c.requires.i_value c.loop-j.invariant c.loop-j-test.true c.dispatch_row-r.ensures c.key.ensures c.last_key-key.ensures c.if-key.false c.amount-run.ensures).rest, last_limit _ _ c.requires.i_value)

pub loop-j-preserved : goal.loop-j-preserved
loop-j-preserved c = back_more _ _ _ c.requires.i_value c.loop-j.invariant c.loop-j-test.true c.dispatch_row-r.ensures c.key.ensures c.last_key-key.ensures c.if-key.false c.amount-run.ensures

pub returns : goal.returns
returns c = back_all _ _ _ c.loop-j.invariant (omega arith)
