-- `asked::neighbours` meets its contract. Demand 3, of what the calls promise. Assumes nothing.
use Rattle.demands.proofs.Demand3.{no_neighbours_figure, costs_are_public}
use Rattle.asked.proofs.neighbours.Goals as goal

pub returns : goal.returns
returns c = let first = c.fervolatro_statement-first.ensures in
    let second = c.fervolatro_statement-second.ensures in record { same = λ agree equal. no_neighbours_figure.same _ _ _ _ _ _ _ _ _ _ agree first (rw (← equal) at second); by_index = λ rows way agree made also equal. costs_are_public.made rows way _ _ _ _ _ _ _ _ _ _ agree made also first (rw (← equal) at second) }
