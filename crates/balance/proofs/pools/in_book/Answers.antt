-- `balance::pools::in_book` meets its contract. The sections lie in the book, and the rows are in order. Assumes nothing.
use Rattle.balance.proofs.Resting.{counted_is}
use Rattle.balance.proofs.pools.in_book.Goals as goal

pub returns : goal.returns
returns c = counted_is c.args.book.now.bytes.now c.args.book.now.header c.requires c.energies.ensures.bytes c.units.ensures.bytes c.all_accounts.ensures
