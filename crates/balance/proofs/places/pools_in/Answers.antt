-- `balance::places::pools_in` meets its contract. Only mode 1 has three. Assumes nothing.
use Rattle.balance.proofs.Finding.{three_pools, one_pool}
use Rattle.balance.proofs.places.pools_in.Goals as goal

pub returns-then-r-eq-FACTORED : goal.returns-then-r-eq-FACTORED
returns-then-r-eq-FACTORED c = three_pools _ c.if-r-eq-FACTORED.true

pub returns-else-r-eq-FACTORED : goal.returns-else-r-eq-FACTORED
returns-else-r-eq-FACTORED c = one_pool _ c.if-r-eq-FACTORED.false
