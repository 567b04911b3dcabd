-- `walk::contract` meets its contract. The totals and the account's energies are those of the book that settles the contract.  Assumes nothing.
use Rattle.locking.proofs.Section.{picked_room}
use Rattle.lines.proofs.Picked.{settles_in}
use Rattle.walk.proofs.Records.{room_in}
use Rattle.walk.proofs.contract.Goals as goal

pub contract_lines-requires : goal.contract_lines-requires
contract_lines-requires c = let handed = c.energies_of-regions.ensures in
    let source = c.of-source.ensures in
    record { in_bounds = picked_room handed c.requires.in_bounds.0 c.requires.in_bounds.1; contract_settles = settles_in handed c.args.own.now c.args.k source c.by.ensures c.requires.settled_in; line_room = room_in handed c.args.own.now c.args.k source c.by.ensures c.requires.line_room }
