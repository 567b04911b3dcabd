-- `divisor_check::constraints` meets its contract. The test of each constraint by bits is the rule. Assumes nothing.
use mathlib.Core.Path.{refl}
use Rattle.std.proofs.Common.{of_calls}
use Rattle.divisor_check.proofs.Bits.{divides_at}
use Rattle.divisor_check.proofs.constraints.Goals as goal

pub returns : goal.returns
returns c = c.first_bad.ensures.first _ (λ j b l e. divides_at _ c.live_of-live.ensures _ j refl (search (of_calls, e)))
