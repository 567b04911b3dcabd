-- `cutoffs::constraints::residual` meets its contract. Both sides of the residual pool are rounded, and what was cut off the one is taken from that of the other. Assumes nothing.
use mathlib.Core.Path.{ap₂, ◌∙◌}
use native.Mathlib.Omega.{arith}
use lib.IntN.{◌-ℤ◌}
use mir.Syntax.{w64}
use mir.Facts.{to_z-of_z}
use borrow.Author.Rules.{sfits_of}
use Rattle.recovery.proofs.Sharing.{recovery_small}
use Rattle.cutoffs.proofs.Made.{rest_above_low, rest_below_low, residual_is}
use Rattle.cutoffs.proofs.constraints.residual.Goals as goal

pub rounded_share-credit-requires : goal.rounded_share-credit-requires
rounded_share-credit-requires c = ((recovery_small _ _ c.requires c.recovery_of-x.ensures).pool, (rw c.above.ensures (rest_above_low _ _ c.requires), omega arith))

pub rounded_share-charge-requires : goal.rounded_share-charge-requires
rounded_share-charge-requires c = ((recovery_small _ _ c.requires c.recovery_of-x.ensures).pool, (rw c.below.ensures (rest_below_low _ _ c.requires), omega arith))

pub returns : goal.returns
returns c = residual_is c.args.r c.args.kind c.recovery_of-x.ensures c.above.ensures c.below.ensures c.rounded_share-credit.ensures c.rounded_share-charge.ensures
    (to_z-of_z {w = w64} (sfits_of c.minus.type_inv) ∙ c.minus.ensures ∙ ap₂ ◌-ℤ◌ (to_z-of_z {w = w64} {z = c.rounded_share-credit.result.cut} (sfits_of c.struct_told-1.given.1.0.1)) (to_z-of_z {w = w64} {z = c.rounded_share-charge.result.cut} (sfits_of c.struct_told-2-1.given.1.0.1)))
