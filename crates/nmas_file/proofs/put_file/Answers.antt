-- `nmas_file::put_file` meets its contract. The text is measured, and written where the buffer has room. Assumes nothing.
use native.Mathlib.Omega.{arith}
use borrow.Author.Tests.{leb-true, leb-false}
use Rattle.sections.proofs.Verdicts.{rule_held, rule_broken}
use Rattle.book.specs.Laid.{book_at}
use Rattle.nmas_file.proofs.Ends.{text_countable, text_short, text_fits, text_written}
use Rattle.nmas_file.proofs.put_file.Goals as goal

pub put_rows-long-requires : goal.put_rows-long-requires
put_rows-long-requires c = let b = c.args.book.now in
    rw c.contracts-contracts.ensures.bytes (record { in_bounds = (omega (arith, b.laid.long), (omega (arith, c.args.second.now.laid.long), rw c.contracts-contracts.ensures.bytes at c.contracts-contracts.ensures.long)); by_index = c.requires; n_in_bounds = text_countable c.args.head (book_at b) (book_at c.args.second.now) c.args.own.now b.laid.few.contracts c.requires _ })

pub returns-in_err-unless : goal.returns-in_err-unless
returns-in_err-unless c = let f = rule_broken _ _ c.unless.ensures c.in_err-unless.was c.from_residual.ensures.1 in
    rw f.answer (text_short c.args.head (book_at c.args.book.now) (book_at c.args.second.now) c.args.own.now c.args.buffer.now (rw c.contracts-contracts.ensures.bytes at c.put_rows-long.ensures.next) (leb-false _ _ f.fails))

pub put_rows-requires : goal.put_rows-requires
put_rows-requires c = let b = c.args.book.now in
    rw c.contracts-contracts.ensures.bytes (record { in_bounds = (omega (arith, b.laid.long), (omega (arith, c.args.second.now.laid.long), rw c.contracts-contracts.ensures.bytes at c.contracts-contracts.ensures.long)); by_index = c.requires; n_in_bounds = text_fits c.args.head (book_at b) (book_at c.args.second.now) c.args.own.now c.args.buffer.now (rw c.contracts-contracts.ensures.bytes at c.put_rows-long.ensures.next) (leb-true _ _ (rule_held _ _ c.unless.ensures c.in_ok-unless.was)) })

pub returns : goal.returns
returns c = text_written c.args.head (book_at c.args.book.now) (book_at c.args.second.now) c.args.own.now c.args.buffer.now (rw c.contracts-contracts.ensures.bytes at c.put_rows-long.ensures.next) (leb-true _ _ (rule_held _ _ c.unless.ensures c.in_ok-unless.was)) (rw c.contracts-contracts.ensures.bytes at c.put_rows.ensures)
