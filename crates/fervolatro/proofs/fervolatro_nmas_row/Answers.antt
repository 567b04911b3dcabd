-- `fervolatro::fervolatro_nmas_row` meets its contract. The answer to the row that is read, whose numbers are small. Assumes nothing.
use mathlib.Core.Path.{◌∙◌, ap}
use Rattle.answers.specs.Answers.{nmas_entry_answer}
use Rattle.nmas_reading.proofs.Numbers.{row_sized}
use Rattle.fervolatro.proofs.fervolatro_nmas_row.Goals as goal

pub nmas_entry-requires : goal.nmas_entry-requires
nmas_entry-requires c = row_sized c.row.ensures

pub returns : goal.returns
returns c = record { reading = c.row.ensures.reading; answer = c.nmas_entry.ensures ∙ ap nmas_entry_answer c.row.ensures.answer }
