-- `count::contracts` meets its contract. Each contract's lines are counted, whatever the energies. Assumes nothing.
use Rattle.std.proofs.Common.{of_calls}
use Rattle.count.proofs.Counting.{contracts_counted}
use Rattle.count.proofs.contracts.Goals as goal

pub returns : goal.returns
returns c = contracts_counted _ _ _ (λ i y l e. search (of_calls, e)) c.sum.ensures.total c.sum.ensures.bound
