-- `reading::header` meets its contract. Each end is a law of `Ends`. Assumes nothing.
use Rattle.sections.proofs.Verdicts.{rule_held, rule_broken}
use Rattle.reading.proofs.Ends.{no_heading, header_lies, heading_given}
use Rattle.reading.proofs.header.Goals as goal

pub returns-in_err-unless : goal.returns-in_err-unless
returns-in_err-unless c = let f = rule_broken _ _ c.unless.ensures c.in_err-unless.was c.from_residual.ensures.1 in rw f.answer (no_heading _ c.is_statement.ensures f.fails)

pub heading_at-requires : goal.heading_at-requires
heading_at-requires c = header_lies _ c.is_statement.ensures (rule_held _ _ c.unless.ensures c.in_ok-unless.was)

pub returns : goal.returns
returns c = heading_given _ c.is_statement.ensures (rule_held _ _ c.unless.ensures c.in_ok-unless.was) _ c.heading_at.ensures
