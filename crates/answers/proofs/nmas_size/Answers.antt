-- `answers::nmas_size` meets its contract. The case decides. Assumes nothing.
use Rattle.answers.specs.Answers.{nmas_size_answer}
use Rattle.answers.proofs.nmas_size.Goals as goal

pub returns-in-Ok : goal.returns-in-Ok
unfolding nmas_size_answer
returns-in-Ok c = rw c.in-Ok.is

pub returns-in-Err : goal.returns-in-Err
unfolding nmas_size_answer
returns-in-Err c = rw c.in-Err.is
