-- How large the amounts of an accepted book can be, so that every product is shown to fit.
use Rattle.std.specs.Prelude.{◌≤◌}
use Rattle.ground.specs.Units.{money_limit}
use Rattle.amounts.specs.declared.pools.Pools.{Pools}
use Rattle.amounts.specs.declared.pools.Residual.{Residual}
use Rattle.amounts.specs.declared.pools.Halves.{Halves}

pub record SmallPools (p : Pools) : Type 0 where
  pub fpp : p.fpp ≤ money_limit
  pub used : p.used ≤ money_limit
  pub unused : p.unused ≤ money_limit

pub record SmallResidual (x : Residual) : Type 0 where
  pub credit : x.credit ≤ money_limit
  pub charge : x.charge ≤ money_limit
  pub used : x.used ≤ money_limit
  pub unused : x.unused ≤ money_limit

pub record SmallHalves (x : Halves) : Type 0 where
  pub consumed : x.consumed ≤ money_limit
  pub sent : x.sent ≤ money_limit
