-- How long a statement's bytes are, a line's names as one number, and how writers in a row make one: line after line, header and lines.
-- Assumes nothing.
use Prim.Native.Nat.{ℕ, ◌+◌, ◌*◌, ◌^◌, ◌<◌}
use mathlib.Core.Path.{◌≡◌, refl, ap, ◌∙◌}
use mathlib.Core.List.{List, [], ◌∷◌, ◌++◌, append_assoc, append-nil}
use native.Mathlib.Omega.{arith}
use native.Mathlib.Nat.{mod-eq_of_lt}
use lib.ListN.{length, length-append}
use Rattle.ground.specs.Le.{bytes_of, le16, le32, le64, int64}
use Rattle.ground.specs.Inner.Put.{Wrote}
use Rattle.ground.proofs.Le.{bytes_above}
use Rattle.ground.proofs.Put.{wrote_none, wrote_more}
use Rattle.statement.specs.declared.Heading.{Heading}
use Rattle.statement.specs.declared.Line.{Line}
use Rattle.statement.specs.Statement.{rcs, heading_bytes, line_bytes, lines_bytes, statement_bytes}

-- ---- lengths

pub line_length : (l : Line) → length (line_bytes l) ≡ 24
unfolding line_bytes le16 le32 le64 int64
line_length l = refl

pub heading_length : (h : Heading) → length (heading_bytes h) ≡ 24
unfolding heading_bytes rcs le16 le32
heading_length h = refl

pub lines_length : (ls : List Line) → length (lines_bytes ls) ≡ 24 * length ls
unfolding lines_bytes
lines_length [] = refl
lines_length (l ∷ ls) = rw (length-append, line_length l, lines_length ls) (omega arith)

pub statement_length : (h : Heading) (ls : List Line) → length (statement_bytes h ls) ≡ 24 + 24 * length ls
unfolding statement_bytes
statement_length h ls = rw (length-append, heading_length h, lines_length ls)

-- ---- a line's first 8 bytes, and its next 8, each as one number

one_byte : (x : ℕ) → x < 256 → bytes_of 1 x ≡ x ∷ []
one_byte x h = rw (mod-eq_of_lt h)

-- a byte, and what stands above it
byte_above : (n x r : ℕ) → x < 256 → bytes_of (1 + n) (x + 256 * r) ≡ x ∷ bytes_of n r
byte_above n x r h = bytes_above 1 n x r h ∙ ap (λ (l : List ℕ). l ++ bytes_of n r) (one_byte x h)

pub names_bytes : (id p r : ℕ) → id < 2 ^ 32 → p < 256 → r < 256 → le64 (id + 4_294_967_296 * p + 1_099_511_627_776 * r) ≡ le32 id ++ (p ∷ []) ++ (r ∷ []) ++ le16 0
unfolding le16 le32 le64
names_bytes id p r h k l =
    let e : id + 4_294_967_296 * p + 1_099_511_627_776 * r ≡ id + 256 ^ 4 * (p + 256 * (r + 256 * 0)) = omega arith in
    ap (bytes_of 8) e
    ∙ bytes_above 4 4 id (p + 256 * (r + 256 * 0)) h
    ∙ ap (λ (l : List ℕ). bytes_of 4 id ++ l) (byte_above 3 p (r + 256 * 0) k ∙ ap (λ (l : List ℕ). p ∷ l) (byte_above 2 r 0 l))

-- the next 8: a unit, and nothing above it
pub unit_bytes_lem : (u : ℕ) → u < 2 ^ 32 → le64 u ≡ le32 u ++ le32 0
unfolding le32 le64
unit_bytes_lem u h =
    let e : u ≡ u + 256 ^ 4 * 0 = omega arith in
    ap (bytes_of 8) e ∙ bytes_above 4 4 u 0 h

-- ---- lines joined to lines

pub lines_append : (xs ys : List Line) → lines_bytes (xs ++ ys) ≡ lines_bytes xs ++ lines_bytes ys
unfolding lines_bytes
lines_append [] ys = refl
lines_append (x ∷ xs) ys = rw (lines_append xs ys, append_assoc)

-- one line
pub lines_one : (l : Line) → lines_bytes (l ∷ []) ≡ line_bytes l
unfolding lines_bytes
lines_one l = append-nil (line_bytes l)

-- ---- what a loop of writes needs

-- no line yet
pub wrote_no_line : (l : List ℕ) (k : ℕ) → Wrote l k (lines_bytes []) l k
unfolding lines_bytes
wrote_no_line l k = wrote_none l k

-- one line is a list of lines
pub wrote_one : (y : Line) {l : List ℕ} {k : ℕ} {b : List ℕ} {e : ℕ} → Wrote l k (line_bytes y) b e → Wrote l k (lines_bytes (y ∷ [])) b e
wrote_one y w = rw (lines_one y) w

-- where each writer ends
module _ {l : List ℕ} {k : ℕ} {b : List ℕ} {e : ℕ} where
  pub heading_end : (h : Heading) → Wrote l k (heading_bytes h) b e → e ≡ k + 24
  heading_end h w = omega (arith, heading_length h)

  pub line_end : (y : Line) → Wrote l k (line_bytes y) b e → e ≡ k + 24
  line_end y w = omega (arith, line_length y)

module _ {l : List ℕ} {k : ℕ} {a : List ℕ} {m : ℕ} {b : List ℕ} {e : ℕ} where
  -- lines, then more lines
  pub wrote_lines : (xs ys : List Line) → Wrote l k (lines_bytes xs) a m → Wrote a m (lines_bytes ys) b e → Wrote l k (lines_bytes (xs ++ ys)) b e
  wrote_lines xs ys p q = rw (lines_append xs ys) (wrote_more p q)

  -- lines, then one line
  pub wrote_line : (xs : List Line) (y : Line) → Wrote l k (lines_bytes xs) a m → Wrote a m (line_bytes y) b e → Wrote l k (lines_bytes (xs ++ (y ∷ []))) b e
  wrote_line xs y p q = wrote_lines xs (y ∷ []) p (wrote_one y q)

  -- the header, then the lines
  pub wrote_statement : (h : Heading) (ls : List Line) → Wrote l k (heading_bytes h) a m → Wrote a m (lines_bytes ls) b e → Wrote l k (statement_bytes h ls) b e
  unfolding statement_bytes
  wrote_statement h ls p q = wrote_more p q
