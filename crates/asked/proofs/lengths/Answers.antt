-- `asked::lengths` meets its contract. Demand 3, of what the calls promise. Assumes nothing.
use Rattle.demands.proofs.Demand3.{no_neighbours_figure}
use Rattle.asked.proofs.lengths.Goals as goal

pub returns : goal.returns
returns c = λ agree. no_neighbours_figure.length _ _ _ _ _ _ _ agree c.fervolatro_length-first.ensures c.fervolatro_length-second.ensures
