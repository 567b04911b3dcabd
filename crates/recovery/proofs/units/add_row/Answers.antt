-- `recovery::units::add_row` meets its contract. The row is counted, and its two shares are added. Assumes nothing.
use native.Mathlib.Omega.{arith}
use Rattle.recovery.proofs.UnitTurns.{above_small, below_small}
use Rattle.recovery.proofs.units.add_row.Goals as goal

pub share-requires : goal.share-requires
share-requires c = (c.requires.pool_le_money_limit.0, (rw c.above.ensures (above_small _ _ c.requires.unit_rule), omega arith))

pub share-requires-2 : goal.share-requires-2
share-requires-2 c = (c.requires.pool_le_money_limit.0, (rw c.below.ensures (below_small _ _ c.requires.unit_rule), omega arith))
