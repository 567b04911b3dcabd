-- `cutoffs::stage_cut` meets its contract. A refusal of the book is the answer; else what the stage cut off, or 15. Assumes nothing.
use mathlib.Core.Path.{refl, sym}
use Rattle.sections.proofs.Verdicts.{handed_on}
use Rattle.verdict.proofs.Both.{both_promised}
use Rattle.cutoffs.proofs.Ends.{end_refused, end_cut}
use Rattle.cutoffs.proofs.stage_cut.Goals as goal

pub returns-in_err-both : goal.returns-in_err-both
returns-in_err-both c = end_refused c.args.book.now c.args.locked.now c.args.number c.args.index (sym c.in_err-both.ensures) refl (handed_on _ c.from_residual.ensures.1)

pub cut_at-requires : goal.cut_at-requires
cut_at-requires c = both_promised c.in_ok-both.ensures

pub returns : goal.returns
returns c = end_cut c.args.book.now c.args.locked.now c.args.number c.args.index c.in_ok-both.ensures c.cut_at.ensures
