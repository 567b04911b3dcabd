-- `settlement::is_named` meets its contract. The first book answers, or the second. Assumes nothing.
use Rattle.book.specs.Laid.{book_at}
use Rattle.settlement.proofs.Ends.{named_second}
use Rattle.settlement.proofs.is_named.Goals as goal

pub returns : goal.returns
returns c = named_second (book_at c.args.book.now) (book_at c.args.second.now) _ c.names.ensures c.if-names.false c.names-2.ensures
