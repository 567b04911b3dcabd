-- Demand 2, the first round trip: every statement that the settlement call writes is accepted by the reader, and reading gives back its
-- header and its lines, all fields, in order. It speaks of the definitions that the calls' contracts cite. Assumes nothing.
use Prim.Native.Nat.{ℕ, ◌^◌, ◌≤◌, ◌<◌}
use mathlib.Core.Path.{◌≡◌, refl, ap, ◌∙◌}
use mathlib.Core.List.{List, [], ◌∷◌}
use borrow.Author.Tests.{le-leb}
use lib.Dec.{leb}
use lib.ListN.{length}
use Rattle.ground.specs.Bytes.{AreBytes}
use Rattle.ground.specs.Inner.Each.{Each}
use Rattle.ground.proofs.Every.{all}
use Rattle.calendar.specs.Calendar.{is_period}
use Rattle.book.specs.Book.{Book, book_of}
use Rattle.book.specs.Table.{locked_for}
use Rattle.book.specs.Inner.Accepted.{Sound}
use Rattle.book.proofs.Promise.{accepted}
use Rattle.accounts.specs.Account.{Public, Rows, LockedPart, public_of, rows_of_account, locked_of}
use Rattle.statement.specs.Statement.{statement_bytes}
use Rattle.statement.specs.Lent.{gives}
use Rattle.statement.specs.declared.Heading.{Heading}
use Rattle.parsing.specs.Parsing.{heading_at, lines_in}
use Rattle.parsing.specs.Inner.Writable.{WritableHeading, WritableLine}
use Rattle.parsing.proofs.Written.{heading_back, lines_back, written_accepted}
use Rattle.settlement.specs.Settle.{lines_of, heading_of, statement_of, outcome}
use Rattle.settlement.proofs.Owned.{own_there_lem, own_of}
use Rattle.trips.specs.ReadBack.{ReadBack}
use Rattle.trips.proofs.Lists.{book_due, due_written}
use Rattle.trips.proofs.Call.{passed, account_low, narrow}

-- the header of an accepted book's statement is in range
heading_written : (B : Book) → Sound B → (account n : ℕ) → 1 ≤ account → account < 2 ^ 32 → n ≤ 2152 → WritableHeading (heading_of account (public_of B) n) n
unfolding public_of
heading_written B s account n low small few =
    record {
      ok =
          all (is_period B.header.interval B.header.date B.header.run ∷ leb n 2152 ∷ leb 1 account ∷ [])
          (s.period, (le-leb n 2152 few, (le-leb 1 account low, tt)));
      account = small;
      count = refl;
    }

-- a header and lines that are in range are read back
read_back : (public : Public) (rows : Rows) (locked : LockedPart) (account : ℕ) → WritableHeading (heading_of account public (length (lines_of public rows locked))) (length (lines_of public rows locked)) → Each WritableLine (lines_of public rows locked) → ReadBack public rows locked account (statement_bytes (heading_of account public (length (lines_of public rows locked))) (lines_of public rows locked))
read_back public rows locked account w v =
    let ls = lines_of public rows locked in
    let h = heading_of account public (length ls) in
    let head : heading_at (statement_bytes h ls) ≡ h = heading_back h ls w in
    record {
      accepted = written_accepted h ls w v;
      heading = head;
      lines = ap (λ (x : Heading). lines_in (statement_bytes h ls) x.lines) head ∙ lines_back h ls v;
    }

-- b is the book, and l is lent as the locked one
pub written_and_read : (b l : List ℕ) (account : ℕ) (xs : List ℕ) → AreBytes b → account < 2 ^ 32 → outcome b l account ≡ gives xs → ReadBack (public_of (book_of b)) (rows_of_account (book_of b) account) (locked_of (book_of (locked_for b l)) account) account xs
unfolding statement_of
written_and_read b l account xs bytes small e =
    let B = book_of b in
    let L = book_of (locked_for b l) in
    let s = passed b l account xs e in
    let p = (accepted b l s.book).promise in
    let o = own_of B L account p (own_there_lem B L account) in
    let ls = lines_of (public_of B) (rows_of_account B account) (locked_of L account) in
    let few : length ls ≤ 2152 = rw o.lines o.few in
    rw s.bytes
    (read_back (public_of B) (rows_of_account B account) (locked_of L account) account
    (heading_written B p.sound account (length ls) (account_low B L p account s.known) small few)
    (due_written ls (rw o.lines (book_due B L p.sound (narrow b bytes) _ account)) s.under))
