-- `settlement::settle` meets its contract. What the length is refused for, then 13; else the lines are written. Assumes nothing.
use mathlib.Core.Path.{sym}
use native.Mathlib.Omega.{arith}
use borrow.Author.Tests.{leb-true, leb-false}
use Rattle.sections.proofs.Verdicts.{handed_on, rule_held, rule_broken}
use Rattle.book.specs.Laid.{book_at}
use Rattle.accounts.proofs.Own.{held_own}
use Rattle.settlement.proofs.Owned.{own_there_lem}
use Rattle.settlement.proofs.Ends.{end_refused, end_13, walk_of, fits_in, end_written}
use Rattle.settlement.proofs.settle.Goals as goal

pub returns-in_err-unless : goal.returns-in_err-unless
returns-in_err-unless c = let f = rule_broken _ _ c.unless.ensures c.in_err-unless.was c.from_residual-in_err-unless.ensures.1 in
    rw f.answer (end_13 (book_at c.args.book.now) (book_at c.args.second.now) _ c.requires.promise.0 (own_there_lem _ _ _) _ c.sized.ensures c.in_ok-n.was (leb-false _ _ f.fails))

pub own_in_second-requires : goal.own_in_second-requires
own_in_second-requires c = record { headed = c.requires.headed; stands_in = (c.requires.promise.1, c.requires.promise.0.locked); own_in = held_own (book_at c.args.book.now) c.held_by-held.ensures }

pub write-requires : goal.write-requires
write-requires c = let own = c.own_in_second.ensures in
    let size = c.sized.ensures in
    let told = c.in_ok-n.was in
    let B = book_at c.args.book.now in
    let L = book_at c.args.second.now in
    rw (sym c.requires.headed.1) (record { in_bounds = omega (arith, c.args.second.now.laid.long); walkable = walk_of B L _ c.requires.promise.0 own c.args.buffer.now size told; fits = fits_in B L _ c.requires.promise.0 own c.args.buffer.now size told (leb-true _ _ (rule_held _ _ c.unless.ensures c.in_ok-unless.was)) })

pub returns : goal.returns
returns c = end_written (book_at c.args.book.now) (book_at c.args.second.now) _ c.requires.promise.0 c.own_in_second.ensures _ c.sized.ensures c.in_ok-n.was (leb-true _ _ (rule_held _ _ c.unless.ensures c.in_ok-unless.was)) (rw (sym c.requires.headed.1) at c.write.ensures)

pub returns-in_err-n : goal.returns-in_err-n
returns-in_err-n c = end_refused (book_at c.args.book.now) (book_at c.args.second.now) _ c.requires.promise.0 (own_there_lem _ _ _) _ c.sized.ensures c.in_err-n.was (handed_on _ c.from_residual.ensures.1)
