-- `divisors::share_of` meets its contract. Of each region both energies are read where they stand. Assumes nothing.
use Rattle.std.proofs.Common.{of_calls}
use Rattle.divisors.proofs.share_of.Goals as goal

pub returns : goal.returns
returns c = c.over_regions.ensures _ _ (λ b g x l e. search (of_calls, e))
