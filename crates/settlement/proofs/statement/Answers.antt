-- `settlement::statement` meets its contract. A refusal of the book is the answer; else the account's statement is written or refused. Assumes nothing.
use Rattle.sections.proofs.Verdicts.{handed_on}
use Rattle.verdict.proofs.Both.{both_promised, both_stand, book_headed, second_headed}
use Rattle.statement.proofs.Lent.{lent_refused}
use Rattle.settlement.proofs.Ends.{outcome_refused, end_settled}
use Rattle.settlement.proofs.statement.Goals as goal

pub returns-in_err-both : goal.returns-in_err-both
returns-in_err-both c = rw (handed_on _ c.from_residual.ensures.1) (lent_refused _ _ _ _ (outcome_refused c.args.book.now c.args.locked.now c.args.account c.in_err-both.ensures))

pub settle-requires : goal.settle-requires
settle-requires c = let both = c.in_ok-both.ensures in
    record { headed = (book_headed both, second_headed both); promise = (both_promised both, both_stand both) }

pub returns : goal.returns
returns c = end_settled c.args.book.now c.args.locked.now c.args.account c.in_ok-both.ensures c.settle.ensures
