-- `numbered::line_at` meets its contract. Among the constraints' lines, or behind them among the contracts'. Assumes nothing.
use Rattle.book.specs.Book.{book_of}
use Rattle.book.specs.Laid.{book_at}
use Rattle.numbered.proofs.Records.{line_first, line_behind}
use Rattle.numbered.proofs.line_at.Goals as goal

pub returns-in-Ok : goal.returns-in-Ok
returns-in-Ok c = let first = rw (c.entries.ensures.bytes, c.constraints.ensures.bytes, c.units.ensures.bytes) at c.in_constraints-first.ensures in
    line_first (book_at c.args.book.now) (book_of c.args.locked.now) c.args.account c.args.own _ first c.in-Ok.is

pub returns-in-Err : goal.returns-in-Err
returns-in-Err c = let first = rw (c.entries.ensures.bytes, c.constraints.ensures.bytes, c.units.ensures.bytes) at c.in_constraints-first.ensures in
    line_behind (book_at c.args.book.now) (book_of c.args.locked.now) c.args.account c.args.own _ first c.in-Err.is _ (rw c.contracts.ensures.bytes at c.in_contracts.ensures)
