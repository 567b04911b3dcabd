-- `answers::heading` meets its contract. The case decides. Assumes nothing.
use Rattle.std.proofs.Common.{rules}
use Rattle.answers.specs.Answers.{heading_answer}
use Rattle.answers.proofs.heading.Goals as goal

pub returns-in-Ok : goal.returns-in-Ok
unfolding heading_answer
returns-in-Ok c = rw c.in-Ok.is

pub returns-in-Err : goal.returns-in-Err
unfolding heading_answer
returns-in-Err c = rw c.in-Err.is (search rules)
