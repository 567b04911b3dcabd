-- `asked::check` meets its contract. Demands 1 and 2, of what the call promises. Assumes nothing.
use Rattle.demands.proofs.Demand1.{every_input_is_answered}
use Rattle.demands.proofs.Demand2.{every_line_and_pool_is_the_guides}
use Rattle.asked.proofs.check.Goals as goal

pub returns : goal.returns
returns c = record { check_answered = every_input_is_answered.check _ _ _ c.fervolatro_check.ensures; numbers_are_the_guides = every_line_and_pool_is_the_guides.check _ _ (λ i. (c.shared_slice_known-1.given i).fits) (λ i. (c.shared_slice_known-2-1.given i).fits) _ c.fervolatro_check.ensures }
