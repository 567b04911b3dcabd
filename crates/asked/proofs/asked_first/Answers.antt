-- `asked::asked_first` meets its contract. How the two calls stand to each other. Assumes nothing.
use Rattle.demands.proofs.Length.{length_is_the_statements}
use Rattle.asked.proofs.asked_first.Goals as goal

pub returns : goal.returns
returns c = length_is_the_statements.calls _ _ _ _ _ _ _ c.fervolatro_length-first.ensures c.fervolatro_statement-second.ensures
