-- `asked::cutoff` meets its contract. Demand 1, of what the call promises, and the promise itself. Assumes nothing.
use Rattle.demands.proofs.Demand1.{every_input_is_answered}
use Rattle.asked.proofs.cutoff.Goals as goal

pub returns : goal.returns
returns c = record { cut_answered = every_input_is_answered.cutoff _ _ _ _ _ c.fervolatro_cutoff.ensures; cutoff_call = c.fervolatro_cutoff.ensures }
