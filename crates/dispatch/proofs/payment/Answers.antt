-- `dispatch::payment` meets its contract: the sum of the rows of id 0. Assumes nothing.
use Rattle.dispatch.specs.Dispatch.{payment}
use Rattle.dispatch.proofs.payment.Goals as goal

pub returns : goal.returns
unfolding payment
returns c = c.tally.ensures
