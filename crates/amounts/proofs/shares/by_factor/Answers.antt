-- `amounts::shares::by_factor` meets its contract. A factor of one side is rounded once; of two, each side is a rounded share. A rounded
-- share is no larger than its pool. Assumes nothing.
use mir.Syntax.{w64}
use mathlib.Core.Path.{ap, ap₂, ◌∙◌}
use lib.Dec.{eqb}
use mir.Facts.{to_z-of_z}
use borrow.Author.Rules.{sfits_of}
use Rattle.amounts.specs.Shares.{by_factor}
use Rattle.numbers.specs.Sign.{signed, less}
use Rattle.amounts.proofs.Signed.{side_factored}
use Rattle.amounts.proofs.shares.by_factor.Goals as goal

pub returns-then-above-below : goal.returns-then-above-below
returns-then-above-below c = to_z-of_z {w = w64} (sfits_of c.signed.type_inv) ∙ c.signed.ensures ∙ ap (signed (eqb c.args.above 0)) c.share.ensures ∙ side_factored c.args.pool c.args.above c.args.below c.if-above-below.true

pub returns : goal.returns
unfolding by_factor
returns c = to_z-of_z {w = w64} (sfits_of c.net.type_inv) ∙ c.net.ensures ∙ ap₂ less c.share-2.ensures c.share-3.ensures
