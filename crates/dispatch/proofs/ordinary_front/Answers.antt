-- `dispatch::ordinary_front` meets its contract. The invariant: the rows so far are ordinary, what is kept of the last one is its key, and the sum
-- asked for is over the rows so far. Assumes nothing.
use mathlib.Core.Path.{ap}
use mathlib.Core.Bool.{not}
use borrow.Author.Rules.{rules}
use Rattle.dispatch.proofs.Turns.{sum_none, sum_asked}
use Rattle.dispatch.proofs.OrdinaryRows.{ordinary_none, ordinary_more, ordinary_room}
use Rattle.dispatch.proofs.ordinary_front.Goals as goal

pub loop-i-init : goal.loop-i-init
loop-i-init c = (ordinary_none _, sum_none _ _ _)

pub with_row-asked-requires : goal.with_row-asked-requires
with_row-asked-requires c = ordinary_room _ _ c.loop-i.invariant.0 (search rules) c.dispatch_row-r.ensures c.is_ordinary.ensures (ap not c.if-not-is_ordinary.false) _ _ c.is_asked.ensures c.loop-i.invariant.1

pub loop-i-preserved : goal.loop-i-preserved
loop-i-preserved c = (
  ordinary_more _ _ c.loop-i.invariant.0 (search rules) c.dispatch_row-r.ensures c.is_ordinary.ensures (ap not c.if-not-is_ordinary.false) c.key-before.ensures,
  sum_asked _ _ _ _ c.dispatch_row-r.ensures c.is_asked.ensures c.loop-i.invariant.1 c.with_row-asked.ensures,
)
