-- The bytes that test payments are settled by are bytes, as both slices are. Assumes nothing.
use Prim.Native.Nat.{ℕ}
use mathlib.Core.Bool.{Bool, true, false, cond}
use mathlib.Core.List.{List}
use Rattle.ground.specs.Bytes.{AreBytes}
use Rattle.locking.specs.Locking.{reads_locked}
use Rattle.book.specs.Header.{header_of}
use Rattle.book.specs.Book.{book_of}
use Rattle.book.specs.Table.{locked_for}

pub locked_bytes : (b t : List ℕ) → AreBytes b → AreBytes t → AreBytes (locked_for b t)
unfolding locked_for
locked_bytes b t a c = by (reads_locked (book_of b).contract (header_of b).contracts)
  where
    by : (x : Bool) → AreBytes (cond x t b)
    by true = c
    by false = a
