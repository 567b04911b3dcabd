-- `answers::answer` meets its contract. The case decides. Assumes nothing.
use Rattle.answers.specs.Answers.{verdict_answer}
use Rattle.answers.proofs.answer.Goals as goal

pub returns-in-Ok : goal.returns-in-Ok
unfolding verdict_answer
returns-in-Ok c = rw c.in-Ok.is

pub returns-in-Err : goal.returns-in-Err
unfolding verdict_answer
returns-in-Err c = rw c.in-Err.is
