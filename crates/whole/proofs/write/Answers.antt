-- `whole::write` meets its contract. The lines are written behind the header's place, and then the header. Assumes nothing.
use Rattle.book.specs.Book.{book_of}
use Rattle.book.specs.Laid.{book_at}
use Rattle.whole.proofs.Written.{whole_out}
use Rattle.whole.proofs.write.Goals as goal

pub returns : goal.returns
returns c = whole_out (book_at c.args.book.now) (book_of c.args.locked.now) c.args.own.now _ c.all_lines-end.ensures c.put_heading.ensures
