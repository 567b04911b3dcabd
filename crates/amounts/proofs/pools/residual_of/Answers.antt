-- `amounts::pools::residual_of` meets its contract. Each part is a rounded share of its pool. Assumes nothing.
use Rattle.amounts.specs.Pools.{residual_pools}
use Rattle.amounts.proofs.pools.residual_of.Goals as goal

pub returns : goal.returns
unfolding residual_pools
returns c = rw (c.share-4.ensures, c.share-3.ensures, c.share-2.ensures, c.share.ensures)
