-- `asked::payment` meets its contract: the demand's theorem, of what the call promises. Assumes nothing.
use Rattle.demands.proofs.Demand1.{every_input_is_answered}
use Rattle.asked.proofs.payment.Goals as goal

pub returns : goal.returns
returns c = every_input_is_answered.payment _ _ _ c.fervolatro_payment.ensures
