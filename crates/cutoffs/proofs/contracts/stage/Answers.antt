-- `cutoffs::contracts::stage` meets its contract. The invariant, `Reached`: the stages of the regions so far come first, and left is the number behind them. Assumes nothing.
use native.Mathlib.Omega.{arith}
use Rattle.accounts.specs.Inner.Lent.{lent}
use Rattle.cutoffs.proofs.Numbering.{reach_start, reach_more, reach_found, reach_end}
use Rattle.cutoffs.proofs.contracts.stage.Goals as goal

pub loop-g-init : goal.loop-g-init
loop-g-init c = reach_start _ _ _

pub returns-then-left-stages : goal.returns-then-left-stages
returns-then-left-stages c = reach_found (lent c.args.e) c.args.k c.loop-g.invariant c.loop-g-test.true c.stages_in-stages.ensures c.if-left-stages.true c.in_region.ensures

pub loop-g-preserved : goal.loop-g-preserved
loop-g-preserved c = reach_more (lent c.args.e) c.args.k c.loop-g.invariant c.loop-g-test.true c.stages_in-stages.ensures (omega (arith, c.if-left-stages.false))

pub returns : goal.returns
returns c = reach_end _ _ c.loop-g.invariant (omega (arith, c.loop-g-test.false))
