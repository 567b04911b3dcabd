-- What the loop that writes line after line needs to know beside the laws of `parsing/proofs/Laid`: the first i lines of s stand from place k of l on. Assumes
-- nothing.
use Prim.Native.Nat.{ℕ, ◌+◌, ◌*◌, ◌≤◌, ◌<◌}
use mathlib.Core.Path.{◌≡◌, refl}
use mathlib.Core.List.{List}
use native.Mathlib.Omega.{arith}
use lib.ListN.{length}
use Rattle.ground.specs.Bytes.{AreBytes}
use Rattle.ground.specs.Inner.Put.{Wrote}
use Rattle.ground.proofs.Put.{wrote_length}
use Rattle.statement.specs.declared.Line.{Line}
use Rattle.parsing.specs.Parsing.{line_at, lines_in}
use Rattle.parsing.proofs.Laid.{Pieces}
use Rattle.printing.specs.Printing.{line_text, lines_text}
use Rattle.printing.proofs.Lengths.{text_more, line_short, lines_short}

pub text_pieces : Pieces line_text lines_text
unfolding lines_text
text_pieces = record { none = refl; more = text_more }

abbrev pub Listed : List ℕ → ℕ → List ℕ → ℕ → List ℕ → ℕ → Type 0
Listed l k s i b e = Wrote l k (lines_text (lines_in s i)) b e

pub listed_room : (l : List ℕ) (k : ℕ) (s : List ℕ) (i : ℕ) {a : List ℕ} {e : ℕ} → Listed l k s i a e → (x : Line) → x ≡ line_at s i → AreBytes s → (n : ℕ) → i < n → k + n * 53 ≤ length l → e + length (line_text x) ≤ length a
listed_room l k s i t x q bytes n h g = rw q (omega (arith, t.next, lines_short s bytes i, line_short s bytes i, wrote_length t))
