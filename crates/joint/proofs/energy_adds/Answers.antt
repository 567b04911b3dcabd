-- `joint::energy_adds` meets its contract. The row before and the first book say whether the account is known. Assumes nothing.
use Rattle.sharing.specs.Accounts.{energy_account}
use Rattle.census.proofs.Counting.{known_before, known_other, known_new}
use Rattle.joint.specs.Names.{energies_of, accounts_of}
use Rattle.joint.specs.Inner.Added.{energy_adds}
use Rattle.joint.proofs.energy_adds.Goals as goal

pub returns-then-goes_on : goal.returns-then-goes_on
unfolding energy_adds
returns-then-goes_on c = let args = c.args in
    known_before (energy_account (energies_of args.locked.now.book.now args.locked.now.rows)) _ (accounts_of args.first.now.named.book.now args.first.now.named.rows) c.goes_on.ensures c.if-goes_on.true

pub returns-then-in_book : goal.returns-then-in_book
unfolding energy_adds
returns-then-in_book c = let args = c.args in
    known_other (energy_account (energies_of args.locked.now.book.now args.locked.now.rows)) _ (accounts_of args.first.now.named.book.now args.first.now.named.rows) c.energy_account.ensures c.in_book.ensures c.if-in_book.true

pub returns : goal.returns
unfolding energy_adds
returns c = let args = c.args in
    known_new (energy_account (energies_of args.locked.now.book.now args.locked.now.rows)) _ (accounts_of args.first.now.named.book.now args.first.now.named.rows) c.goes_on.ensures c.if-goes_on.false c.energy_account.ensures c.in_book.ensures c.if-in_book.false
