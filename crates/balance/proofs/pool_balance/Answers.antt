-- `balance::pool_balance` meets its contract. A refusal of the book is the answer; else the pool's balance, or 15. Assumes nothing.
use mathlib.Core.Path.{refl, sym}
use Rattle.sections.proofs.Verdicts.{handed_on}
use Rattle.verdict.proofs.Both.{both_promised, both_stand, book_headed, second_headed}
use Rattle.balance.proofs.Ends.{end_refused, end_balanced}
use Rattle.balance.proofs.pool_balance.Goals as goal

pub returns-in_err-both : goal.returns-in_err-both
returns-in_err-both c = end_refused c.args.book.now c.args.locked.now c.args.number (sym c.in_err-both.ensures) refl (handed_on _ c.from_residual.ensures.1)

pub balance_at-requires : goal.balance_at-requires
balance_at-requires c = let both = c.in_ok-both.ensures in
    record { headed = (book_headed both, second_headed both); promise = both_promised both; stands_in = both_stand both }

pub returns : goal.returns
returns c = end_balanced c.args.book.now c.args.locked.now c.args.number c.in_ok-both.ensures c.balance_at.ensures
