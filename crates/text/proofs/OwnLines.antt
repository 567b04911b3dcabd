-- The listing by the statement's own definition: where the call gives a statement, the text is that of its header and of its lines, since what was
-- written is read back (crates/trips). No locked book is lent, so that these are the lines of the book alone. Assumes nothing.
use Prim.Native.Nat.{ℕ, ◌^◌, ◌<◌}
use mathlib.Core.Path.{◌≡◌, refl, ap, ap₂, ◌∙◌}
use mathlib.Core.Bool.{Bool, true, false, cond}
use mathlib.Core.List.{List, []}
use lib.ListN.{length}
use Rattle.ground.specs.Bytes.{AreBytes}
use Rattle.sections.specs.Refusal.{unless, earlier, first_of, unrefused}
use Rattle.sections.proofs.Cases.{zero_one}
use Rattle.sections.proofs.Verdicts.{record_held}
use Rattle.locking.specs.Locking.{reads_locked}
use Rattle.locking.proofs.Tests.{read_holds}
use Rattle.book.specs.Header.{header_of}
use Rattle.book.specs.Book.{book_of}
use Rattle.book.specs.Table.{check1, soundness, check18, locks, locked_for, verdict}
use Rattle.book.proofs.Passed.{all_passed}
use Rattle.book.proofs.Promise.{locks_sound}
use Rattle.accounts.specs.Account.{public_of}
use Rattle.statement.specs.Lent.{gives}
use Rattle.settlement.specs.Settle.{heading_of, lines_for, outcome}
use Rattle.trips.proofs.Call.{passed}
use Rattle.trips.proofs.Trip.{written_and_read}
use Rattle.printing.specs.Printing.{statement_text}
use Rattle.text.specs.Listing.{outcome_text}

-- no bytes at all are no book
none_sound : soundness [] ≡ unrefused → ⊥
unfolding unless earlier first_of check1 soundness
none_sound e = zero_one cc

-- so a book with a test payment is refused where no locked book is lent, and an accepted one is settled by itself
pub settled_alone : (b : List ℕ) → verdict b [] ≡ unrefused → locked_for b [] ≡ b
unfolding check18 locked_for
settled_alone b e = by (reads_locked (book_of b).contract (header_of b).contracts) refl
  where
    by : (t : Bool) → reads_locked (book_of b).contract (header_of b).contracts ≡ t → cond t [] b ≡ b
    by true r = absurd (none_sound (locks_sound (header_of b) [] (read_holds (book_of b).contract (header_of b).contracts (locks (header_of b) []) r (record_held _ _ _ _ (all_passed b [] e).fits))))
    by false r = refl

pub own_lines_lem : (b : List ℕ) (account : ℕ) (xs : List ℕ) → AreBytes b → account < 2 ^ 32 → outcome b [] account ≡ gives xs → outcome_text (outcome b [] account) ≡ statement_text (heading_of account (public_of (book_of b)) (length (lines_for (book_of b) (book_of b) account))) (lines_for (book_of b) (book_of b) account)
unfolding outcome_text
own_lines_lem b account xs bytes small e =
    let back = written_and_read b [] account xs bytes small e in
    let alone = settled_alone b (passed b [] account xs e).book in
    ap outcome_text e
    ∙ ap₂ statement_text back.heading back.lines
    ∙ ap (λ (l : List ℕ). statement_text (heading_of account (public_of (book_of b)) (length (lines_for (book_of b) (book_of l) account))) (lines_for (book_of b) (book_of l) account)) alone
