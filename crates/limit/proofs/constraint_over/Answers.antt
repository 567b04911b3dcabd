-- `limit::constraint_over` meets its contract. The FPP pool is the definition's. Assumes nothing.
use Rattle.limit.specs.Inner.Limits.{constraint_over}
use Rattle.limit.proofs.constraint_over.Goals as goal

pub returns : goal.returns
unfolding constraint_over
returns c = rw c.pools_of.ensures
