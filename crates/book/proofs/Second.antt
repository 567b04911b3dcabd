-- An accepted book beside the second one, by which test payments are settled, as a call has the two: b is the book, l what was lent as the locked
-- one, v the verdict on both. Assumes nothing.
use Prim.Native.Nat.{ℕ}
use mathlib.Core.Path.{◌≡◌, sym, ap, ◌∙◌}
use mathlib.Core.Bool.{Bool, false, cond}
use mathlib.Core.List.{List}
use Rattle.sections.specs.Refusal.{Verdict, unrefused}
use Rattle.locking.specs.Locking.{reads_locked}
use Rattle.book.specs.Header.{header_of}
use Rattle.book.specs.declared.header.Header.{Header}
use Rattle.book.specs.Book.{book_in, book_of}
use Rattle.book.specs.Table.{locked_for, verdict}
use Rattle.book.specs.Inner.Facts.{Laid}
use Rattle.book.specs.Inner.Accepted.{SettlesTests, StandsIn, Promise, AcceptedBook}
use Rattle.book.proofs.Promise.{accepted}

module _ (b l : List ℕ) {v : Verdict} (q : v ≡ verdict b l) (e : v ≡ unrefused) where
  pub given : AcceptedBook b l
  given = accepted b l (sym q ∙ e)

  module _ {h : Header} (i : h ≡ header_of b) where
    pub laid_in : Laid b h
    laid_in = rw i (record { few = given.promise.sound.few; long = given.long })

    -- s is the second book
    module _ {s : List ℕ} (t : SettlesTests b h l s) where
      pub is_locked : s ≡ locked_for b l
      unfolding locked_for
      is_locked = rw i at t.bytes

      pub locked_laid : Laid s (header_of s)
      locked_laid = rw is_locked (record { few = given.promise.locked.few; long = given.locked })

      pub promised_in : Promise (book_in b h) (book_of s)
      promised_in = rw (i, is_locked) given.promise

      pub stands_in : StandsIn b h s
      stands_in = record { unread = λ r. t.bytes ∙ ap (λ (x : Bool). cond x l b) r }

-- where the book has no test payments, it is the second book itself
pub stands_same : (b : List ℕ) (h : Header) (s : List ℕ) → StandsIn b h s → h ≡ header_of b → reads_locked (book_in b h).contract h.contracts ≡ false → book_of s ≡ book_in b h
stands_same b h s t i r = rw (t.unread r, i)
