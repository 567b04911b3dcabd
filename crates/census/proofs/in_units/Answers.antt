-- `census::in_units` meets its contract. The place of an account is empty where no row names it. Assumes nothing.
use Rattle.census.proofs.Tree.{place_told}
use Rattle.census.proofs.in_units.Goals as goal

pub returns : goal.returns
returns c = place_told _ _ _ _ c.requires.grown c.find.ensures.place
