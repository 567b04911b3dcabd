-- `count::all_lines` meets its contract. The constraints' lines, and then the contracts'. Assumes nothing.
use Rattle.book.specs.Laid.{book_at}
use Rattle.count.proofs.Counting.{book_counted}
use Rattle.count.proofs.all_lines.Goals as goal

pub returns : goal.returns
returns c = book_counted (book_at c.args.book.now) c.args.account c.args.book.now.laid.few.contracts (rw (c.constraints.ensures.bytes, c.units.ensures.bytes) at c.constraints-of_constraints.ensures) (rw c.contracts.ensures.bytes at c.contracts-2.ensures)
