-- `balance::pools::accounts` meets its contract. Where no contract is a test payment the second book is the first. Assumes nothing.
use Rattle.locking.proofs.Tests.{no_test}
use Rattle.balance.proofs.Resting.{counted_alone, counted_both, names_laid}
use Rattle.balance.proofs.pools.accounts.Goals as goal

pub returns-in-None : goal.returns-in-None
returns-in-None c = let told = no_test _ _ (rw c.contracts.ensures.bytes at c.first_test.ensures) c.in-None.is in
    let b = c.args.book.now in
    let s = c.args.second.now in
    counted_alone b.bytes.now b.header s.bytes.now s.header c.requires.stands_in c.requires.headed.0 c.requires.headed.1 told c.in_book.ensures
