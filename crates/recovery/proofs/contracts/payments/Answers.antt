-- `recovery::contracts::payments` meets its contract. Each region that benefits is counted, and what all accounts pay is taken as it is. Assumes nothing.
use mathlib.Core.Path.{◌≡◌}
use native.Mathlib.Omega.{arith}
use Rattle.sections.proofs.Total.{total_none, total_more}
use Rattle.recovery.proofs.Payments.{paid_is}
use Rattle.recovery.proofs.contracts.payments.Goals as goal

pub loop-factor-init : goal.loop-factor-init
loop-factor-init c = (total_none _, omega arith)

pub loop-factor-preserved : goal.loop-factor-preserved
loop-factor-preserved c = (total_more _ _ c.loop-factor.invariant.0 c.benefits-regions.ensures.0, omega (arith, c.loop-factor.invariant.1, c.benefits-regions.ensures.1))

pub returns : goal.returns
returns c = let e : c.loop-factor.factor-index ≡ 5 = omega arith in paid_is _ _ (rw e at c.loop-factor.invariant.0) (omega (arith, c.loop-factor.invariant.1)) c.charges.ensures
