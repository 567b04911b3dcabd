-- `answers::cut` meets its contract. The case decides. Assumes nothing.
use Rattle.std.proofs.Common.{rules}
use mir.Facts.{to_z-of_z}
use mir.Syntax.{w64}
use borrow.Author.Rules.{sfits_of}
use Rattle.answers.specs.Answers.{cut_answer}
use Rattle.answers.proofs.cut.Goals as goal

pub returns-in-Ok : goal.returns-in-Ok
unfolding cut_answer
returns-in-Ok c = rw (c.in-Ok.is, c.stage_number.ensures, to_z-of_z {w = w64} (sfits_of c.struct_told-1.given.1.1.1.0.1))

pub returns-in-Err : goal.returns-in-Err
unfolding cut_answer
returns-in-Err c = rw c.in-Err.is (search rules)
