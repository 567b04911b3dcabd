-- `asked::header` meets its contract: the demand's theorem, of what the call promises. Assumes nothing.
use Rattle.demands.proofs.Demand1.{every_input_is_answered}
use Rattle.asked.proofs.header.Goals as goal

pub returns : goal.returns
returns c = every_input_is_answered.header _ _ c.fervolatro_header.ensures
