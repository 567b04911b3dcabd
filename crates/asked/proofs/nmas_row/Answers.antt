-- `asked::nmas_row` meets its contract. Demand 1, of what the call promises. Assumes nothing.
use Rattle.demands.proofs.Demand1.{every_input_is_answered}
use Rattle.asked.proofs.nmas_row.Goals as goal

pub returns : goal.returns
returns c = every_input_is_answered.row _ _ _ c.fervolatro_nmas_row.ensures
