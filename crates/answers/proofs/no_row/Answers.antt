-- `answers::no_row` meets its contract. Every field is the definition's. Assumes nothing.
use Rattle.std.proofs.Common.{rules}
use Rattle.answers.specs.Answers.{no_row_answer}
use Rattle.answers.proofs.no_row.Goals as goal

pub returns : goal.returns
unfolding no_row_answer
returns c = search rules
