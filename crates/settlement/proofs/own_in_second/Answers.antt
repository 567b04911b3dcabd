-- `settlement::own_in_second` meets its contract. Where no contract is a test payment the second book is the first. Assumes nothing.
use Rattle.locking.proofs.Tests.{no_test}
use Rattle.book.proofs.Second.{stands_same}
use Rattle.settlement.proofs.Owned.{own_found, own_alone}
use Rattle.settlement.proofs.own_in_second.Goals as goal

pub returns-in-None : goal.returns-in-None
returns-in-None c = let told = no_test _ _ (rw c.contracts.ensures.bytes at c.first_test.ensures) c.in-None.is in
    let b = c.args.book.now in
    own_alone _ _ _ c.requires.own_in (rw c.requires.headed.1 (stands_same b.bytes.now b.header c.args.second.now.bytes.now c.requires.stands_in.0 c.requires.headed.0 told))

pub returns-in-Some : goal.returns-in-Some
returns-in-Some c = own_found _ _ _ c.requires.own_in c.held_by.ensures
