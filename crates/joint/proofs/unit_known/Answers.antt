-- `joint::unit_known` meets its contract. The row's account is looked up in the first book. Assumes nothing.
use Rattle.joint.specs.Inner.Added.{unit_known}
use Rattle.joint.proofs.unit_known.Goals as goal

pub returns : goal.returns
unfolding unit_known
returns c = rw (← c.unit_account.ensures) c.in_book.ensures
