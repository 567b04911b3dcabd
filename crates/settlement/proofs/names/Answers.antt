-- `settlement::names` meets its contract. A unit row does where no energy row does. Assumes nothing.
use Rattle.book.specs.Laid.{book_at}
use Rattle.settlement.proofs.Ends.{names_told}
use Rattle.settlement.proofs.names.Goals as goal

pub returns : goal.returns
returns c = names_told (book_at c.args.book.now) _ c.requires (rw c.units.ensures.bytes at c.is_known.ensures)
