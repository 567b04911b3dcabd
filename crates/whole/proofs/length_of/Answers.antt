-- `whole::length_of` meets its contract. The lines are counted. Assumes nothing.
use Rattle.book.specs.Laid.{book_at}
use Rattle.whole.proofs.Given.{countable_of}
use Rattle.whole.proofs.length_of.Goals as goal

pub all_lines-requires : goal.all_lines-requires
all_lines-requires c = countable_of (book_at c.args.book.now) c.requires
