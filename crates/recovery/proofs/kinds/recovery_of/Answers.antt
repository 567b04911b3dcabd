-- `recovery::kinds::recovery_of` meets its contract. The kind decides which pool, of those that the constraint has. Assumes nothing.
use Rattle.recovery.specs.ByKind.{pool_by, credit_by, charge_by}
use Rattle.recovery.specs.Inner.Shapes.{recovery_of}
use Rattle.recovery.specs.Recovers.{recovers}
use Rattle.amounts.proofs.Sizes.{pools_small}
use Rattle.recovery.proofs.kinds.recovery_of.Goals as goal

pub residual_of-x-requires : goal.residual_of-x-requires
residual_of-x-requires c = record { constraint_rule = c.requires; small_pools = rw c.pools_of-p.ensures (pools_small _ c.requires) }

pub returns-in-Contingency : goal.returns-in-Contingency
unfolding recovery_of recovers pool_by credit_by charge_by
returns-in-Contingency c = rw c.in-Contingency.is

pub returns-in-Fpp : goal.returns-in-Fpp
unfolding recovery_of recovers pool_by credit_by charge_by
returns-in-Fpp c = rw (c.in-Fpp.is, c.residual_of-x.ensures, c.pools_of-p.ensures)

pub returns-in-Used : goal.returns-in-Used
unfolding recovery_of recovers pool_by credit_by charge_by
returns-in-Used c = rw (c.in-Used.is, c.residual_of-x.ensures, c.pools_of-p.ensures)

pub returns-in-Unused : goal.returns-in-Unused
unfolding recovery_of recovers pool_by credit_by charge_by
returns-in-Unused c = rw (c.in-Unused.is, c.residual_of-x.ensures, c.pools_of-p.ensures)

pub returns-in-Payment : goal.returns-in-Payment
unfolding recovery_of recovers pool_by credit_by charge_by
returns-in-Payment c = rw c.in-Payment.is
