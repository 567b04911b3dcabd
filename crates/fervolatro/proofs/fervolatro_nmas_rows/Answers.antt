-- `fervolatro::fervolatro_nmas_rows` meets its contract. The answer to the text that is read. Assumes nothing.
use mathlib.Core.Path.{◌∙◌, ap}
use Rattle.answers.specs.Answers.{nmas_size_answer}
use Rattle.fervolatro.proofs.fervolatro_nmas_rows.Goals as goal

pub returns : goal.returns
returns c = record { reading = c.rows.ensures.reading; answer = c.nmas_size.ensures ∙ ap nmas_size_answer c.rows.ensures.answer }
