-- `rules::order::rises` meets its contract. The first row, or one with a row before it. Assumes nothing.
use Rattle.sections.proofs.Order.{rises_first, rises_later}
use Rattle.rules.proofs.order.rises.Goals as goal

pub returns-then-i-eq0 : goal.returns-then-i-eq0
returns-then-i-eq0 g c = rises_first _ _ _ c.if-i-eq0.true

pub returns : goal.returns
returns g c = rises_later _ _ _ c.if-i-eq0.false c.read-before.ensures c.read.ensures c.below.ensures
