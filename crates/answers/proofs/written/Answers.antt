-- `answers::written` meets its contract. The case decides. Assumes nothing.
use Rattle.answers.specs.Answers.{written_answer}
use Rattle.answers.proofs.written.Goals as goal

pub returns-in-Ok : goal.returns-in-Ok
unfolding written_answer
returns-in-Ok c = rw c.in-Ok.is

pub returns-in-Err : goal.returns-in-Err
unfolding written_answer
returns-in-Err c = rw c.in-Err.is
