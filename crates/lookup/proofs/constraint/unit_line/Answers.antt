-- `lookup::constraint::unit_line` meets its contract. The pools are the definition's. Assumes nothing.
use Rattle.amounts.proofs.Sizes.{pools_small}
use Rattle.lookup.proofs.constraint.unit_line.Goals as goal

pub unit_line-requires-clause-small_pools : goal.unit_line-requires-clause-small_pools
unit_line-requires-clause-small_pools c = rw c.pools_of.ensures (pools_small _ c.requires.constraint_rule)
