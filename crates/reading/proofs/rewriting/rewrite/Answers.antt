-- `reading::rewriting::rewrite` meets its contract. Each end is a law of `Ends`. Assumes nothing.
use native.Mathlib.Omega.{arith}
use borrow.Author.Tests.{leb-true, leb-false}
use Rattle.sections.proofs.Verdicts.{rule_held, rule_broken}
use Rattle.reading.proofs.Ends.{header_lies}
use Rattle.reading.proofs.Rewritten.{end_14, end_13, lines_lie, lines_fit, end_written}
use Rattle.reading.proofs.rewriting.rewrite.Goals as goal

pub returns-in_err-unless : goal.returns-in_err-unless
returns-in_err-unless c = let f = rule_broken _ _ c.unless.ensures c.in_err-unless.was c.from_residual.ensures.1 in rw f.answer (end_14 _ c.is_statement.ensures _ f.fails)

pub returns-in_err-unless-2 : goal.returns-in_err-unless-2
returns-in_err-unless-2 c = let f = rule_broken _ _ c.unless-2.ensures c.in_err-unless-2.was c.from_residual-in_err-unless-2.ensures.1 in rw f.answer (end_13 _ c.is_statement.ensures (rule_held _ _ c.unless.ensures c.in_ok-unless.was) _ (leb-false _ _ f.fails))

pub heading_at-heading-requires : goal.heading_at-heading-requires
heading_at-heading-requires c = header_lies _ c.is_statement.ensures (rule_held _ _ c.unless.ensures c.in_ok-unless.was)

pub put_heading-requires : goal.put_heading-requires
put_heading-requires c = omega (arith, header_lies _ c.is_statement.ensures (rule_held _ _ c.unless.ensures c.in_ok-unless.was), leb-true _ _ (rule_held _ _ c.unless-2.ensures c.in_ok-unless-2.was))

pub put_lines-requires : goal.put_lines-requires
put_lines-requires c = let stands = rule_held _ _ c.unless.ensures c.in_ok-unless.was in
    let room = leb-true _ _ (rule_held _ _ c.unless-2.ensures c.in_ok-unless-2.was) in
    (lines_lie _ c.is_statement.ensures stands _ c.heading_at-heading.ensures, lines_fit _ c.is_statement.ensures stands _ c.heading_at-heading.ensures room c.put_heading.ensures)

pub returns : goal.returns
returns c = let stands = rule_held _ _ c.unless.ensures c.in_ok-unless.was in
    let room = leb-true _ _ (rule_held _ _ c.unless-2.ensures c.in_ok-unless-2.was) in
    end_written _ c.is_statement.ensures stands _ c.heading_at-heading.ensures room c.put_heading.ensures c.put_lines.ensures
