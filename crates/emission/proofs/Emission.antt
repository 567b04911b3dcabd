-- Lines written one after the other: one line, two steps as one, and the room that is left. Assumes nothing.
use Prim.Native.Nat.{ℕ, ◌+◌, ◌≤◌}
use mathlib.Core.Path.{◌≡◌, ap, ◌∙◌}
use mathlib.Core.List.{List, [], ◌∷◌, ◌++◌}
use lib.ListN.{length, length-append}
use native.Mathlib.Omega.{arith}
use Rattle.ground.specs.Inner.Put.{Wrote}
use Rattle.ground.proofs.Put.{put_more, put_length}
use Rattle.statement.specs.Statement.{line_bytes, lines_bytes}
use Rattle.statement.specs.declared.Line.{Line}
use Rattle.statement.proofs.Lines.{line_length, lines_length, lines_append, lines_one, wrote_no_line}
use Rattle.emission.specs.Inner.Emitted.{Emitted, LineRoom}

pub emitted_none : (l : List ℕ) (k : ℕ) → Emitted l k [] l k
emitted_none l k = record { bytes = (wrote_no_line l k).bytes; next = omega arith }

pub emitted_one : (y : Line) {l : List ℕ} {k : ℕ} {b : List ℕ} {e : ℕ} → Wrote l k (line_bytes y) b e → Emitted l k (y ∷ []) b e
emitted_one y w = record { bytes = rw (lines_one y) w.bytes; next = omega (arith, w.next, line_length y) }

pub emitted_more : {l a b : List ℕ} {k m e : ℕ} (xs ys : List Line) → Emitted l k xs a m → Emitted a m ys b e → Emitted l k (xs ++ ys) b e
emitted_more {l} {a} {b} {k} {m} xs ys p q =
    let place : m ≡ k + length (lines_bytes xs) = omega (arith, p.next, lines_length xs) in
    record {
      bytes = rw (lines_append xs ys) (put_more l k (lines_bytes xs) (lines_bytes ys) p.bytes (rw place at q.bytes));
      next = rw length-append (omega (arith, p.next, q.next));
    }

pub emitted_length : {l b : List ℕ} {k e : ℕ} (ls : List Line) → Emitted l k ls b e → length b ≡ length l
emitted_length {l} {b} {k} ls p = ap length p.bytes ∙ put_length l k (lines_bytes ls)

-- ---- room

pub room_less : {l : List ℕ} {k : ℕ} (m n : ℕ) → m ≤ n → LineRoom l k n → LineRoom l k m
room_less m n h r = record { fits = omega (arith, r.fits) }

pub room_rest : {l b : List ℕ} {k e : ℕ} (ls : List Line) (n : ℕ) → LineRoom l k (length ls + n) → Emitted l k ls b e → LineRoom b e n
room_rest ls n r p = record { fits = omega (arith, r.fits, p.next, emitted_length ls p) }
