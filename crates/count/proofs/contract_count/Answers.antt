-- `count::contract_count` meets its contract. The invariant: the lines of the regions so far are counted. Assumes nothing.
use mathlib.Core.Path.{◌≡◌}
use native.Mathlib.Omega.{arith}
use Rattle.sections.proofs.Total.{total_none, total_more}
use Rattle.count.proofs.Counting.{contract_counted}
use Rattle.count.proofs.contract_count.Goals as goal

pub loop-factor-init : goal.loop-factor-init
loop-factor-init c = (total_none _, omega arith)

pub loop-factor-preserved : goal.loop-factor-preserved
loop-factor-preserved c = (total_more _ _ c.loop-factor.invariant.0 c.region_count-lines.ensures.0, omega (arith, c.loop-factor.invariant.1, c.region_count-lines.ensures.1))

pub returns : goal.returns
returns c = let e : c.loop-factor.factor-index ≡ 5 = omega arith in contract_counted _ (rw e at c.loop-factor.invariant.0) (omega (arith, c.loop-factor.invariant.1))
