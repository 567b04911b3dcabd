-- `cutoffs::constraints::line` meets its contract. The cost is shared over all accounts. Assumes nothing.
use mir.Syntax.{w64}
use mathlib.Core.Path.{◌∙◌}
use mir.Facts.{to_z-of_z}
use borrow.Author.Rules.{sfits_of}
use Rattle.cutoffs.proofs.Made.{line_is}
use Rattle.cutoffs.proofs.constraints.line.Goals as goal

pub returns : goal.returns
returns c = line_is _ _ c.divisor-whole.ensures (to_z-of_z {w = w64} (sfits_of c.cut_over_regions.type_inv) ∙ c.cut_over_regions.ensures.cut)
