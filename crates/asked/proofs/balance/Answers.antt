-- `asked::balance` meets its contract. Demands 1 and 2, of what the call promises. Assumes nothing.
use Rattle.demands.proofs.Demand1.{every_input_is_answered}
use Rattle.demands.proofs.Demand2.{every_line_and_pool_is_the_guides}
use Rattle.asked.proofs.balance.Goals as goal

pub returns : goal.returns
returns c = record { pool_answered = every_input_is_answered.balance _ _ _ _ c.fervolatro_balance.ensures; pool_closes = every_line_and_pool_is_the_guides.balance _ _ (λ i. (c.shared_slice_known-1.given i).fits) (λ i. (c.shared_slice_known-2-1.given i).fits) _ _ c.fervolatro_balance.ensures }
