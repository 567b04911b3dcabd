-- `divisor_check::contract_divides` meets its contract. The entries are those of the book that settles the contract. Assumes nothing.
use Rattle.totals.specs.Divisors.{contract_divides}
use Rattle.locking.proofs.Section.{picked_entries, picked_room}
use Rattle.divisor_check.proofs.contract_divides.Goals as goal

pub all_funded-requires : goal.all_funded-requires
all_funded-requires c = picked_room c.energies_of-regions.ensures c.requires.0 c.requires.1.0

pub returns : goal.returns
unfolding contract_divides
returns c = rw (c.all_funded.ensures, picked_entries c.energies_of-regions.ensures, c.of.ensures, c.contract_row-r.ensures)
