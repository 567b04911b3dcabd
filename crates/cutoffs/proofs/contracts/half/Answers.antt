-- `cutoffs::contracts::half` meets its contract. The part is at most the payment, so that its half fits. Assumes nothing.
use mathlib.Core.Path.{◌∙◌}
use mir.Syntax.{w64}
use mir.Facts.{to_z-of_z}
use borrow.Author.Rules.{sfits_of}
use Rattle.cutoffs.proofs.Made.{half_is}
use Rattle.cutoffs.proofs.contracts.half.Goals as goal

pub returns : goal.returns
returns c = half_is _ _ c.share-part.ensures (to_z-of_z {w = w64} {z = c.half_of-consumed.result.cut} (sfits_of c.struct_told-1.given.1.0.1) ∙ c.half_of-consumed.ensures.cut)
