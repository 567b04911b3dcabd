-- `cutoffs::contracts::lines` meets its contract. What was cut off is that of the part's shares. Assumes nothing.
use mathlib.Core.Path.{◌∙◌}
use mir.Syntax.{w64}
use mir.Facts.{to_z-of_z}
use borrow.Author.Rules.{sfits_of}
use Rattle.cutoffs.proofs.Made.{lines_are}
use Rattle.cutoffs.proofs.contracts.lines.Goals as goal

pub returns : goal.returns
returns c = lines_are (to_z-of_z {w = w64} (sfits_of c.shared_cut.type_inv) ∙ c.shared_cut.ensures.0)
