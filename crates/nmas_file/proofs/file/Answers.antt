-- `nmas_file::file` meets its contract. 15 comes before all; a refusal of the book is the answer; else the text is written or refused. Assumes nothing.
use borrow.Author.Tests.{leb-true, leb-false}
use Rattle.sections.proofs.Verdicts.{handed_on, rule_held, rule_broken}
use Rattle.verdict.proofs.Both.{both_promised, book_headed}
use Rattle.nmas_file.proofs.Ends.{file_15, book_refused, file_settled}
use Rattle.nmas_file.proofs.file.Goals as goal

pub returns-in_err-unless : goal.returns-in_err-unless
returns-in_err-unless c = let f = rule_broken _ _ c.unless.ensures c.in_err-unless.was c.from_residual.ensures.1 in
    rw f.answer (file_15 c.args.book.now c.args.locked.now c.args.account c.args.payment_type (leb-false _ _ f.fails))

pub returns-in_err-both : goal.returns-in_err-both
returns-in_err-both c = book_refused c.args.book.now c.args.locked.now c.args.account c.args.payment_type (leb-true _ _ (rule_held _ _ c.unless.ensures c.in_ok-unless.was)) c.in_err-both.ensures (handed_on _ c.from_residual-in_err-both.ensures.1)

pub settled_file-requires : goal.settled_file-requires
settled_file-requires c = let both = c.in_ok-both.ensures in
    record { headed = book_headed both; are_bytes = rw both.book (λ j. (c.shared_slice_known-1.given j).fits); promise = (both_promised both, leb-true _ _ (rule_held _ _ c.unless.ensures c.in_ok-unless.was)) }

pub returns : goal.returns
returns c = file_settled c.args.book.now c.args.locked.now c.args.account c.args.payment_type (leb-true _ _ (rule_held _ _ c.unless.ensures c.in_ok-unless.was)) c.in_ok-both.ensures c.settled_file.ensures
