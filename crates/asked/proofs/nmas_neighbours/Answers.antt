-- `asked::nmas_neighbours` meets its contract. Demand 3, of what the calls promise. Assumes nothing.
use Rattle.demands.proofs.Demand3.{no_neighbours_figure}
use Rattle.asked.proofs.nmas_neighbours.Goals as goal

pub returns : goal.returns
returns c = let first = c.fervolatro_nmas-first.ensures in
    let second = c.fervolatro_nmas-second.ensures in
    λ agree equal. no_neighbours_figure.file _ _ _ _ _ _ _ _ _ _ _ agree first (rw (← equal) at second)
