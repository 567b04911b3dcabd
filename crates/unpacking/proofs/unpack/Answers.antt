-- `unpacking::unpack` meets its contract. Each end is a law of `Ends`. Assumes nothing.
use borrow.Author.Tests.{leb-true, leb-false}
use Rattle.sections.proofs.Verdicts.{rule_held, rule_broken}
use Rattle.reading.proofs.Ends.{header_lies}
use Rattle.unpacking.proofs.Ends.{end_14, lines_lie, end_13, end_written}
use Rattle.unpacking.proofs.unpack.Goals as goal

pub returns-in_err-unless : goal.returns-in_err-unless
returns-in_err-unless c = let f = rule_broken _ _ c.unless.ensures c.in_err-unless.was c.from_residual.ensures.1 in rw f.answer (end_14 _ c.is_statement.ensures _ f.fails)

pub heading_at-lines-requires : goal.heading_at-lines-requires
heading_at-lines-requires c = header_lies _ c.is_statement.ensures (rule_held _ _ c.unless.ensures c.in_ok-unless.was)

pub returns-in_err-unless-2 : goal.returns-in_err-unless-2
returns-in_err-unless-2 c = let f = rule_broken _ _ c.unless-2.ensures c.in_err-unless-2.was c.from_residual-in_err-unless-2.ensures.1 in rw f.answer (end_13 _ c.is_statement.ensures (rule_held _ _ c.unless.ensures c.in_ok-unless.was) _ c.heading_at-lines.ensures _ (leb-false _ _ f.fails))

pub put_lines-requires : goal.put_lines-requires
put_lines-requires c = (lines_lie _ c.is_statement.ensures (rule_held _ _ c.unless.ensures c.in_ok-unless.was) _ c.heading_at-lines.ensures, leb-true _ _ (rule_held _ _ c.unless-2.ensures c.in_ok-unless-2.was))

pub returns : goal.returns
returns c = end_written _ c.is_statement.ensures (rule_held _ _ c.unless.ensures c.in_ok-unless.was) _ c.heading_at-lines.ensures _ (leb-true _ _ (rule_held _ _ c.unless-2.ensures c.in_ok-unless-2.was)) c.put_lines.ensures
