-- `asked::rewrite` meets its contract: the demands' theorems, of what the call promises. Each element of a lent slice is a byte. Assumes nothing.
use Rattle.demands.proofs.Demand1.{every_input_is_answered}
use Rattle.demands.proofs.Demand2.{every_line_and_pool_is_the_guides}
use Rattle.asked.proofs.rewrite.Goals as goal

pub returns : goal.returns
returns c = record { answered = every_input_is_answered.rewrite _ _ _ _ c.fervolatro_rewrite.ensures; gives = every_line_and_pool_is_the_guides.rewrite _ (λ i. (c.shared_slice_known-1.given i).fits) _ _ _ c.fervolatro_rewrite.ensures }
