-- `amounts::pools::pools_of` meets its contract. A factored mode gives its data, and any other leaves all unused. Assumes nothing.
use borrow.Enum.Refused.{opened}
use mathlib.Core.Path.{◌≡◌, refl, sym}
use native.Mathlib.Omega.{arith}
use Rattle.market.proofs.Modes.{unfactored}
use Rattle.numbers.proofs.Rounding.{round_share}
use Rattle.amounts.proofs.Sizes.{data_in}
use Rattle.amounts.specs.Pools.{all_unused, pools_by_mode}
use Rattle.amounts.proofs.pools.pools_of.Goals as goal

pub returns-in_default : goal.returns-in_default
unfolding pools_by_mode
returns-in_default c = rw (sym c.of-mode.ensures) (unfactored (λ m. all_unused c.args.r.cost ≡ pools_by_mode c.args.r.cost m) refl refl refl c.of-mode.result (opened c.in_default.in_default-own.keys2))

pub share-used-requires : goal.share-used-requires
share-used-requires c = (c.requires.cost, ((data_in _ c.requires c.of-mode.ensures c.in-Factored.is).used, omega arith))

pub overflow_sub-result : goal.overflow_sub-result
overflow_sub-result c = omega (arith, c.share-used.ensures, round_share c.args.r.cost c.in-Factored.usage 1_000_000 (data_in _ c.requires c.of-mode.ensures c.in-Factored.is).used)

pub returns : goal.returns
unfolding pools_by_mode
returns c = rw (sym c.of-mode.ensures, c.in-Factored.is, c.share-used.ensures, c.fpp_pool.ensures.whole)
