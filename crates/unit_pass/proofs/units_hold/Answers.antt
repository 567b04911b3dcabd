-- `unit_pass::units_hold` meets its contract. The invariant, `Exactly`: the constraints so far and the rows before the cursor keep all rules, where only those rows count, and where all rows keep them none behind the cursor is of these constraints. Assumes nothing.
use mathlib.Core.Path.{ap}
use mathlib.Core.Bool.{not}
use native.Mathlib.Omega.{arith}
use Rattle.unit_pass.proofs.Walk.{passed_under}
use Rattle.unit_pass.proofs.Ahead.{exactly_more, exactly_no, exactly_all}
use Rattle.unit_pass.proofs.units_hold.Goals as goal

pub run-t-requires-clause-under : goal.run-t-requires-clause-under
run-t-requires-clause-under c = passed_under _ _ _ _ _ _ c.requires.rises c.loop-j-test.true c.constraint_row-r.ensures c.loop-j.invariant.passed

pub returns-then-not-settles : goal.returns-then-not-settles
returns-then-not-settles c = exactly_no _ _ _ _ c.requires.rises c.requires.by_index _ _ c.loop-j-test.true c.constraint_row-r.ensures c.loop-j.invariant c.run-t.ensures c.settles.ensures (ap not c.if-not-settles.true)

pub loop-j-preserved : goal.loop-j-preserved
loop-j-preserved c = exactly_more _ _ _ _ c.requires.rises c.requires.by_index _ _ c.loop-j-test.true c.constraint_row-r.ensures c.loop-j.invariant c.run-t.ensures c.settles.ensures (ap not c.if-not-settles.false)

pub returns : goal.returns
returns c = exactly_all _ _ _ _ _ _ c.loop-j.invariant (omega arith)
