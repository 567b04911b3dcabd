-- `asked::nmas_rows` meets its contract. Demand 1, and the text read and written, of what the call promises. Assumes nothing.
use Rattle.demands.proofs.Demand1.{every_input_is_answered}
use Rattle.demands.proofs.File.{file_is_the_statements}
use Rattle.asked.proofs.nmas_rows.Goals as goal

pub returns : goal.returns
returns c = record { nmas_size_answered = every_input_is_answered.rows _ _ c.fervolatro_nmas_rows.ensures; read_and_written = file_is_the_statements.read _ _ c.fervolatro_nmas_rows.ensures }
