-- `asked::base_cost` meets its contract: the demand's theorem, of what the call promises. Assumes nothing.
use Rattle.demands.proofs.Demand1.{every_input_is_answered}
use Rattle.asked.proofs.base_cost.Goals as goal

pub returns : goal.returns
returns c = every_input_is_answered.base_cost _ _ _ _ c.fervolatro_base_cost.ensures
