-- `recovery::contracts::charges` meets its contract. The invariant: the list has what the first g regions recover. Assumes nothing.
use native.Mathlib.Omega.{arith}
use Rattle.recovery.proofs.Payments.{parts_all, all_payable, charges_are}
use Rattle.recovery.proofs.Sharing.{rows_room}
use Rattle.recovery.proofs.contracts.charges.Goals as goal

pub pays-requires : goal.pays-requires
pays-requires c = record { n_in_bounds = rows_room _ _ c.args.e.laid; all_payable = all_payable c.args.e.sound _ c.requires (parts_all _ _ _ c.loop-g.invariant (omega arith) (omega arith)) }

pub returns : goal.returns
returns c = charges_are c.args.e.sound _ c.requires (parts_all _ _ _ c.loop-g.invariant (omega arith) (omega arith)) c.pays.ensures
