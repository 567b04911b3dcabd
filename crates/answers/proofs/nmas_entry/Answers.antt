-- `answers::nmas_entry` meets its contract. The case decides. Assumes nothing.
use Rattle.nmas_reading.specs.Inner.Sized.{RowSized}
use Rattle.answers.specs.Answers.{nmas_entry_answer}
use Rattle.answers.proofs.nmas_entry.Goals as goal

pub nmas_row-requires : goal.nmas_row-requires
unfolding RowSized
nmas_row-requires c = rw c.in-Ok.is at c.requires

pub returns-in-Ok : goal.returns-in-Ok
unfolding nmas_entry_answer
returns-in-Ok c = rw c.in-Ok.is c.nmas_row.ensures

pub returns-in-Err : goal.returns-in-Err
unfolding nmas_entry_answer
returns-in-Err c = rw c.in-Err.is c.no_row.ensures
