-- What it says of the two books of a request that all checks accept them: b is the book, and l was lent as the locked one. Assumes nothing.
use Prim.Native.Nat.{ℕ}
use mathlib.Core.Path.{◌≡◌, sym, ap, ◌∙◌}
use mathlib.Core.Bool.{Bool, false, cond}
use mathlib.Core.List.{List}
use Rattle.locking.specs.Locking.{reads_locked}
use Rattle.book.specs.Header.{header_of}
use Rattle.book.specs.Book.{book_of}
use Rattle.book.specs.Laid.{book_at}
use Rattle.book.specs.Table.{locked_for}
use Rattle.book.specs.Inner.Accepted.{StandsIn, Promise}
use Rattle.book.proofs.Promise.{accepted}
use Rattle.verdict.specs.declared.BothBooks.{BothBooks}
use Rattle.verdict.specs.Accepted.{BothOf}

module _ {b l : List ℕ} {x : BothBooks} (t : BothOf b l x) where
  pub both_promised : Promise (book_at x.book) (book_at x.second)
  both_promised = rw (t.header, t.book, t.second_header, t.second) (accepted b l t.unrefused).promise

  pub book_headed : x.book.header ≡ header_of x.book.bytes.now
  book_headed = t.header ∙ ap header_of (sym t.book)

  pub second_headed : x.second.header ≡ header_of x.second.bytes.now
  second_headed = t.second_header ∙ ap header_of (sym t.second)

  pub both_stand : StandsIn x.book.bytes.now x.book.header x.second.bytes.now
  unfolding locked_for
  both_stand = record { unread = λ r. t.second ∙ ap (λ (y : Bool). cond y l b) (rw (t.header, t.book) at r) ∙ sym t.book }
