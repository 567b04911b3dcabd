-- `recovery::units::row_cut` meets its contract. Both sides are rounded, and what was cut off the one is taken from that of the other. Assumes nothing.
use mathlib.Core.Path.{ap₂, ◌∙◌}
use native.Mathlib.Omega.{arith}
use lib.IntN.{◌-ℤ◌}
use mir.Syntax.{w64}
use mir.Facts.{to_z-of_z}
use borrow.Author.Rules.{sfits_of}
use Rattle.amounts.specs.Shares.{cut_by_factor}
use Rattle.recovery.specs.ByKind.{above_by, below_by}
use Rattle.recovery.proofs.UnitTurns.{above_small, below_small, cut_low, rounds_by}
use Rattle.recovery.proofs.units.row_cut.Goals as goal

pub rounded_share-credit-requires : goal.rounded_share-credit-requires
rounded_share-credit-requires c = (c.requires.pool_le_money_limit, (rw c.above.ensures (above_small _ _ c.requires.unit_rule), omega arith))

pub rounded_share-charge-requires : goal.rounded_share-charge-requires
rounded_share-charge-requires c = (c.requires.pool_le_money_limit, (rw c.below.ensures (below_small _ _ c.requires.unit_rule), omega arith))

pub returns : goal.returns
unfolding cut_by_factor
returns c = let above = rounds_by c.args.pool c.above.ensures c.rounded_share-credit.ensures in
    let below = rounds_by c.args.pool c.below.ensures c.rounded_share-charge.ensures in
    let told = to_z-of_z {w = w64} (sfits_of c.minus.type_inv) ∙ c.minus.ensures
    ∙ ap₂ ◌-ℤ◌ (to_z-of_z {w = w64} {z = c.rounded_share-credit.result.cut} (sfits_of c.struct_told-1.given.1.0.1) ∙ above.cut) (to_z-of_z {w = w64} {z = c.rounded_share-charge.result.cut} (sfits_of c.struct_told-2-1.given.1.0.1) ∙ below.cut) in
    (told, rw told (cut_low c.args.pool (above_by c.args.kind c.args.q) (below_by c.args.kind c.args.q)))
