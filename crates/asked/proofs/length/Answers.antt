-- `asked::length` meets its contract. Demand 1, and how long a statement is. Assumes nothing.
use Rattle.demands.proofs.Demand1.{every_input_is_answered}
use Rattle.demands.proofs.Length.{length_is_the_statements}
use Rattle.asked.proofs.length.Goals as goal

pub returns : goal.returns
returns c = record { length_answered = every_input_is_answered.length _ _ _ _ c.fervolatro_length.ensures; as_long_as_the_guides = length_is_the_statements.lines _ _ (λ i. (c.shared_slice_known-1.given i).fits) (λ i. (c.shared_slice_known-2-1.given i).fits) _ _ c.fervolatro_length.ensures }
