-- `amounts::pools::pool_cuts` meets its contract. A factored mode gives its data, and any other rounds nothing. Assumes nothing.
use borrow.Enum.Refused.{opened}
use mathlib.Core.Path.{◌≡◌, refl, sym, ◌∙◌}
use native.Mathlib.Omega.{arith}
use mir.Syntax.{w64}
use mir.Facts.{to_z-of_z}
use borrow.Author.Rules.{sfits_of}
use Rattle.market.proofs.Modes.{unfactored}
use Rattle.amounts.proofs.Sizes.{data_in, cuts_factored}
use Rattle.amounts.specs.Pools.{none_cut, pool_cuts_by_mode}
use Rattle.amounts.proofs.pools.pool_cuts.Goals as goal

pub returns-in_default : goal.returns-in_default
unfolding pool_cuts_by_mode
returns-in_default c = rw (sym c.of-mode.ensures) (unfactored (λ m. none_cut ≡ pool_cuts_by_mode c.args.r.cost m) refl refl refl c.of-mode.result (opened c.in_default.in_default-own.keys2))

pub rounded_share-requires : goal.rounded_share-requires
rounded_share-requires c = (c.requires.cost, ((data_in _ c.requires c.of-mode.ensures c.in-Factored.is).used, omega arith))

pub returns : goal.returns
returns c = cuts_factored c.args.r c.of-mode.ensures c.in-Factored.is
    (to_z-of_z {w = w64} {z = c.fpp_pool.result.cut} (sfits_of c.struct_told-1.given.1.0.1) ∙ c.fpp_pool.ensures.cut)
    (to_z-of_z {w = w64} {z = c.rounded_share.result.cut} (sfits_of c.struct_told-2-1.given.1.0.1) ∙ c.rounded_share.ensures.cut)
