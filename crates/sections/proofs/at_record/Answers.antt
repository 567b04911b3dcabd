-- `sections::at_record` meets its contract. The case decides, and the place fits since the record's number and size are small. Assumes nothing.
use Rattle.sections.specs.Refusal.{at_record}
use Rattle.sections.proofs.at_record.Goals as goal

pub returns-in-None : goal.returns-in-None
unfolding at_record
returns-in-None c = rw c.in-None.is

pub returns-in-Some : goal.returns-in-Some
unfolding at_record
returns-in-Some c = rw c.in-Some.is
