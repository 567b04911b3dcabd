-- `settlement::length` meets its contract. A refusal of the book is the answer; else the account's statement is measured or refused. Assumes nothing.
use mathlib.Core.Path.{◌∙◌}
use Rattle.sections.proofs.Verdicts.{handed_on}
use Rattle.verdict.proofs.Both.{both_promised}
use Rattle.statement.proofs.Lent.{length_refused}
use Rattle.settlement.proofs.Ends.{outcome_refused, size_settled}
use Rattle.settlement.proofs.length.Goals as goal

pub measure-requires : goal.measure-requires
measure-requires c = both_promised c.in_ok-both.ensures

pub returns : goal.returns
returns c = size_settled c.args.book.now c.args.locked.now c.args.account c.in_ok-both.ensures c.measure.ensures

pub returns-in_err-both : goal.returns-in_err-both
returns-in_err-both c = handed_on _ c.from_residual.ensures.1 ∙ length_refused _ _ _ (outcome_refused c.args.book.now c.args.locked.now c.args.account c.in_err-both.ensures)
