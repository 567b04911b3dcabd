-- `nmas_file::put_settled` meets its contract. The totals and the account's energies are those of the book that settles the contract. Assumes nothing.
use Rattle.locking.proofs.Section.{picked_room}
use Rattle.nmas_file.proofs.Walked.{fileable_in, room_in, put_in}
use Rattle.nmas_file.proofs.put_settled.Goals as goal

pub put_contract-requires : goal.put_contract-requires
put_contract-requires g c = let handed = c.energies_of-regions.ensures in
    let source = c.of-source.ensures in
    record { in_bounds = picked_room handed c.requires.in_bounds.0 c.requires.in_bounds.1; fileable = fileable_in c.args.head handed c.args.own.now c.args.k source c.by.ensures c.requires.fileable_in; k_in_bounds = room_in c.args.head handed c.args.own.now c.args.k source c.by.ensures g.met.P.Puts.in_turn c.requires.k_in_bounds }

pub returns : goal.returns
returns g c = put_in c.args.head c.energies_of-regions.ensures c.args.own.now c.args.k c.of-source.ensures c.by.ensures g.met.P.Puts.in_turn c.put_contract.ensures
