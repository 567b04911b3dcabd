-- `reading::line` meets its contract. Each end is a law of `Ends`. Assumes nothing.
use borrow.Author.Tests.{ltb-true, ltb-false}
use Rattle.sections.proofs.Verdicts.{rule_held, rule_broken}
use Rattle.reading.proofs.Ends.{no_line, header_lies, past_end, line_lies, line_given}
use Rattle.reading.proofs.line.Goals as goal

pub returns-in_err-unless : goal.returns-in_err-unless
returns-in_err-unless c = let f = rule_broken _ _ c.unless.ensures c.in_err-unless.was c.from_residual.ensures.1 in rw f.answer (no_line _ c.is_statement.ensures _ f.fails)

pub heading_at-requires : goal.heading_at-requires
heading_at-requires c = header_lies _ c.is_statement.ensures (rule_held _ _ c.unless.ensures c.in_ok-unless.was)

pub returns-in_err-unless-2 : goal.returns-in_err-unless-2
returns-in_err-unless-2 c = let f = rule_broken _ _ c.unless-2.ensures c.in_err-unless-2.was c.from_residual-in_err-unless-2.ensures.1 in rw f.answer (past_end _ c.is_statement.ensures (rule_held _ _ c.unless.ensures c.in_ok-unless.was) _ c.heading_at.ensures _ (ltb-false _ _ f.fails))

pub line_at-requires : goal.line_at-requires
line_at-requires c = line_lies _ c.is_statement.ensures (rule_held _ _ c.unless.ensures c.in_ok-unless.was) _ c.heading_at.ensures _ (ltb-true _ _ (rule_held _ _ c.unless-2.ensures c.in_ok-unless-2.was))

pub returns : goal.returns
returns c = line_given _ c.is_statement.ensures (rule_held _ _ c.unless.ensures c.in_ok-unless.was) _ c.heading_at.ensures _ _ (ltb-true _ _ (rule_held _ _ c.unless-2.ensures c.in_ok-unless-2.was)) c.line_at.ensures
