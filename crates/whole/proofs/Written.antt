-- The header and then the lines make the statement. Assumes nothing.
use Prim.Native.Nat.{ℕ, ◌-◌, ◌/◌}
use mathlib.Core.Path.{◌≡◌}
use mathlib.Core.List.{List}
use lib.ListN.{length, length-append}
use native.Mathlib.Omega.{arith}
use Rattle.ground.specs.Inner.Put.{Wrote}
use Rattle.ground.proofs.Put.{wrote_front}
use Rattle.accounts.specs.declared.energies.OwnEnergies.{OwnEnergies}
use Rattle.book.specs.Book.{Book}
use Rattle.statement.specs.Statement.{heading_bytes, lines_bytes, statement_bytes}
use Rattle.statement.specs.declared.Heading.{Heading}
use Rattle.statement.specs.declared.Line.{Line}
use Rattle.statement.proofs.Lines.{heading_length, lines_length}
use Rattle.lines.specs.Inner.Walks.{book_lines}
use Rattle.emission.specs.Inner.Emitted.{Emitted}
use Rattle.whole.specs.Inner.Whole.{heading_in, whole_of}

-- the lines behind the header, and then the header
pub statement_out : (hd : Heading) (ls : List Line) {l a b : List ℕ} {e f : ℕ} → Emitted l 24 ls a e → Wrote a 0 (heading_bytes hd) b f → Wrote l 0 (statement_bytes hd ls) b e
unfolding statement_bytes
statement_out hd ls {l} {a} {b} m w =
    record {
      bytes = wrote_front l (heading_bytes hd) (lines_bytes ls) (rw (← heading_length hd) at m.bytes) w.bytes;
      next = rw length-append (omega (arith, m.next, heading_length hd, lines_length ls));
    }

-- the header says how many lines there are, as their end tells
pub whole_out : (B L : Book) (own : OwnEnergies) (account : ℕ) {l a b : List ℕ} {e f : ℕ} → Emitted l 24 (book_lines B L account own) a e → Wrote a 0 (heading_bytes (heading_in account B (e / 24 - 1))) b f → Wrote l 0 (whole_of account B L own) b e
unfolding whole_of
whole_out B L own account {e = e} m w =
    let n : e / 24 - 1 ≡ length (book_lines B L account own) = omega (arith, m.next) in
    rw (← n) (statement_out _ _ m w)
