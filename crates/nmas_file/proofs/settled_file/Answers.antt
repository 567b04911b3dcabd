-- `nmas_file::settled_file` meets its contract. What the statement is refused for is the answer; else the text is written or refused. Assumes nothing.
use native.Mathlib.Omega.{arith}
use Rattle.sections.proofs.Verdicts.{handed_on}
use Rattle.book.specs.Laid.{book_at}
use Rattle.accounts.proofs.Own.{held_own}
use Rattle.settlement.proofs.Owned.{own_found}
use Rattle.nmas_file.proofs.Ends.{file_refused, file_asks, file_written}
use Rattle.nmas_file.proofs.settled_file.Goals as goal

pub sized-requires : goal.sized-requires
sized-requires c = record { promise = c.requires.promise.0; held_value = c.held_by-held.ensures.any }

pub returns-in_err-sized : goal.returns-in_err-sized
returns-in_err-sized c = file_refused c.args.book.now.bytes.now c.requires.headed (book_at c.args.second.now) c.args.account c.args.payment_type c.requires.promise.0 c.requires.promise.1 c.sized.ensures c.in_err-sized.was (handed_on _ c.from_residual.ensures.1)

pub put_file-requires : goal.put_file-requires
put_file-requires c = let told = c.in_ok-sized.was in
    let own = own_found _ _ _ (held_own (book_at c.args.book.now) c.held_by-held.ensures) c.held_by.ensures in
    file_asks c.args.book.now.bytes.now c.requires.headed (book_at c.args.second.now) c.args.account c.args.payment_type c.requires.promise.0 c.requires.promise.1 c.sized.ensures told own c.head_of-head.ensures c.requires.are_bytes (omega (arith, c.ranges.account))

pub returns : goal.returns
returns c = let own = own_found _ _ _ (held_own (book_at c.args.book.now) c.held_by-held.ensures) c.held_by.ensures in
    file_written c.args.book.now.bytes.now c.requires.headed (book_at c.args.second.now) c.args.account c.args.payment_type c.requires.promise.0 c.requires.promise.1 c.sized.ensures c.in_ok-sized.was own c.head_of-head.ensures c.put_file.ensures
