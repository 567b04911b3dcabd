-- `numbered::in_contract` meets its contract. The totals and the account's energies are those of the book that settles the contract. Assumes nothing.
use Rattle.locking.proofs.Section.{picked_room}
use Rattle.lines.proofs.Picked.{settles_in}
use Rattle.numbered.proofs.in_contract.Goals as goal

pub contract_line-requires : goal.contract_line-requires
contract_line-requires c = let handed = c.energies_of-regions.ensures in
    record { in_bounds = picked_room handed c.requires.in_bounds.0 c.requires.in_bounds.1; contract_settles = settles_in handed c.args.own c.args.k c.of-source.ensures c.by.ensures c.requires.settled_in }
