-- `cutoffs::contracts::whole` meets its contract. A rounded share of the payment, by the region's factor. Assumes nothing.
use mathlib.Core.Path.{◌∙◌}
use mir.Syntax.{w64}
use mir.Facts.{to_z-of_z}
use borrow.Author.Rules.{sfits_of}
use Rattle.cutoffs.proofs.Made.{whole_is}
use Rattle.cutoffs.proofs.contracts.whole.Goals as goal

pub returns : goal.returns
returns c = whole_is _ _ (to_z-of_z {w = w64} {z = c.rounded_share-part.result.cut} (sfits_of c.struct_told-1.given.1.0.1) ∙ c.rounded_share-part.ensures.cut)
