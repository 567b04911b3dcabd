-- `settlement::sized` meets its contract. 11, then 12, then the count. Assumes nothing.
use Rattle.sections.proofs.Verdicts.{rule_held, rule_broken}
use Rattle.book.specs.Laid.{book_at}
use Rattle.settlement.proofs.Owned.{own_there_lem}
use Rattle.settlement.proofs.Ends.{size_11, size_12, size_counted}
use Rattle.settlement.proofs.sized.Goals as goal

pub returns-in_err-unless : goal.returns-in_err-unless
returns-in_err-unless c = let f = rule_broken _ _ c.unless.ensures c.in_err-unless.was c.from_residual.ensures.1 in
    rw f.answer (size_11 (book_at c.args.book.now) (book_at c.args.second.now) _ c.requires.promise (own_there_lem _ _ _) c.is_named.ensures f.fails)

pub returns-in_err-unless-2 : goal.returns-in_err-unless-2
returns-in_err-unless-2 c = let f = rule_broken _ _ c.unless-2.ensures c.in_err-unless-2.was c.from_residual-in_err-unless-2.ensures.1 in
    rw f.answer (size_12 (book_at c.args.book.now) (book_at c.args.second.now) _ c.requires.promise (own_there_lem _ _ _) c.is_named.ensures (rule_held _ _ c.unless.ensures c.in_ok-unless.was) c.passed.ensures f.fails)

pub returns : goal.returns
returns c = size_counted (book_at c.args.book.now) (book_at c.args.second.now) _ c.requires.promise (own_there_lem _ _ _) c.is_named.ensures (rule_held _ _ c.unless.ensures c.in_ok-unless.was) c.passed.ensures (rule_held _ _ c.unless-2.ensures c.in_ok-unless-2.was) c.length_of.ensures
