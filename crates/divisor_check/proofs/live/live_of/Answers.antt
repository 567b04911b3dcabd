-- `divisor_check::live::live_of` meets its contract. The invariant: of each kind, the bits of the regions so far. Assumes nothing.
use native.Mathlib.Omega.{arith}
use Rattle.market.specs.declared.Basis.TheVariants.{Ace, Asoe, Residual}
use Rattle.divisor_check.proofs.Bits.{live_none, live_more, live_room}
use Rattle.divisor_check.proofs.live.live_of.Goals as goal

pub loop-g-init : goal.loop-g-init
loop-g-init c = live_none _

pub overflow_add-ace : goal.overflow_add-ace
overflow_add-ace c = omega (arith, live_room _ c.loop-g.invariant c.entry_row-e.ensures Ace c.loop-g-test.true c.bit_with-ace.ensures)

pub overflow_add-asoe : goal.overflow_add-asoe
overflow_add-asoe c = omega (arith, live_room _ c.loop-g.invariant c.entry_row-e.ensures Asoe c.loop-g-test.true c.bit_with-asoe.ensures)

pub overflow_add-residual : goal.overflow_add-residual
overflow_add-residual c = omega (arith, live_room _ c.loop-g.invariant c.entry_row-e.ensures Residual c.loop-g-test.true c.bit_with-residual.ensures)

pub loop-g-preserved : goal.loop-g-preserved
loop-g-preserved c = live_more _ c.loop-g.invariant c.entry_row-e.ensures c.bit_with-ace.ensures c.bit_with-asoe.ensures c.bit_with-residual.ensures
