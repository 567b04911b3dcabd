-- What a constraint or a contract has to recover. 01, The amounts.
use Rattle.std.specs.Prelude.{ℕ, ◌+◌, ◌-◌, ◌*◌, ◌/◌, pos}
use Rattle.numbers.specs.Round.{round_n, cut_n}
use Rattle.ground.specs.Units.{million}
use Rattle.rules.specs.Rules.{mode_of}
use Rattle.market.specs.declared.Mode.{Mode}
use Rattle.market.specs.declared.Mode.TheVariants.{Contingency, Factored, Default, Unknown}
use Rattle.records.specs.declared.rows.Constraint.{Constraint}
use Rattle.amounts.specs.declared.pools.Pools.{Pools}
use Rattle.amounts.specs.declared.pools.PoolCuts.{PoolCuts}
use Rattle.amounts.specs.declared.pools.Residual.{Residual}
use Rattle.amounts.specs.declared.pools.Halves.{Halves}

-- "Mode 2: all unused."
abbrev pub all_unused : ℕ → Pools
all_unused cost = record { fpp = 0; used = 0; unused = cost }

-- "used = round(cost x usage / 1,000,000); unused = cost - used." "FPP pool = round(price x RCR / 120)."
unfoldable pub pools_by_mode : ℕ → Mode → Pools
pools_by_mode cost Contingency = all_unused cost
pools_by_mode cost (Factored price response usage) =
    record {
      fpp = round_n (price * response) 120;
      used = round_n (cost * usage) million;
      unused = cost - round_n (cost * usage) million;
    }
pools_by_mode cost Default = all_unused cost
pools_by_mode cost Unknown = all_unused cost

abbrev pub pools_of : Constraint → Pools
pools_of r = pools_by_mode r.cost (mode_of r)

-- what rounding them cuts off: "Mode 2: all unused", and nothing is rounded
abbrev pub none_cut : PoolCuts
none_cut = record { fpp = pos 0; used = pos 0 }

unfoldable pub pool_cuts_by_mode : ℕ → Mode → PoolCuts
pool_cuts_by_mode cost Contingency = none_cut
pool_cuts_by_mode cost (Factored price response usage) = record { fpp = cut_n (price * response) 120; used = cut_n (cost * usage) million }
pool_cuts_by_mode cost Default = none_cut
pool_cuts_by_mode cost Unknown = none_cut

abbrev pub pool_cuts_of : Constraint → PoolCuts
pool_cuts_of r = pool_cuts_by_mode r.cost (mode_of r)

-- "Residual pools are made the same way, from RCF, min(0, RCF), DRCF."
unfoldable pub residual_pools : Constraint → Pools → Residual
residual_pools r p =
    record {
      credit = round_n (p.fpp * r.prcf) million;
      charge = round_n (p.fpp * r.nrcf) million;
      used = round_n (p.used * r.nrcf) million;
      unused = round_n (p.unused * r.drcf) million;
    }

-- "r = round(payment x factor / 1,000,000). The consumed half is r / 2, an odd r rounded up; the sent-out half is the rest."
abbrev pub halve : ℕ → Halves
halve r = record { consumed = (r + 1) / 2; sent = r - (r + 1) / 2 }

unfoldable pub halves_of : ℕ → ℕ → Halves
halves_of payment factor = halve (round_n (payment * factor) million)
