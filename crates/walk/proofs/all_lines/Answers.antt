-- `walk::all_lines` meets its contract. The constraints' lines, and then the contracts'. Assumes nothing.
use Rattle.book.specs.Book.{book_of}
use Rattle.book.specs.Laid.{book_at}
use Rattle.walk.proofs.AllLines.{first_room, second_room, both_out}
use Rattle.walk.proofs.all_lines.Goals as goal

pub constraints-first-requires-clause-line_room : goal.constraints-first-requires-clause-line_room
constraints-first-requires-clause-line_room c = rw (c.entries.ensures.bytes, c.constraints.ensures.bytes, c.units.ensures.bytes) (first_room (book_at c.args.book.now) (book_of c.args.locked.now) c.args.account c.args.own.now c.requires.line_room)

pub contracts-requires-2-clause-line_room : goal.contracts-requires-2-clause-line_room
contracts-requires-2-clause-line_room c = let first = rw (c.entries.ensures.bytes, c.constraints.ensures.bytes, c.units.ensures.bytes) at c.constraints-first.ensures in
    rw c.contracts.ensures.bytes (second_room (book_at c.args.book.now) (book_of c.args.locked.now) c.args.account c.args.own.now first c.requires.line_room)

pub returns : goal.returns
returns c = let first = rw (c.entries.ensures.bytes, c.constraints.ensures.bytes, c.units.ensures.bytes) at c.constraints-first.ensures in
    both_out (book_at c.args.book.now) (book_of c.args.locked.now) c.args.account c.args.own.now first (rw c.contracts.ensures.bytes at c.contracts-2.ensures)
