-- `dispatch::base_cost` meets its contract. The sum that was found, or nothing for id 0; a refusal stays. Assumes nothing.
use Rattle.dispatch.proofs.Ends.{base_none, base_found}
use Rattle.dispatch.proofs.base_cost.Goals as goal

pub returns-then-id-eq0 : goal.returns-then-id-eq0
returns-then-id-eq0 c = base_none _ _ _ c.tally-found.ensures c.if-id-eq0.true c.without_amount.ensures

pub returns : goal.returns
returns c = base_found _ _ _ c.tally-found.ensures c.if-id-eq0.false
