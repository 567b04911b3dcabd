-- How long the pieces of a listing can be, by the widths of the fields that they spell. Assumes nothing.
use Prim.Native.Nat.{ℕ, zero, suc, ◌+◌, ◌*◌, ◌^◌, ◌≤◌, ◌<◌}
use mathlib.Core.Path.{◌≡◌, sym, ap, ◌∙◌}
use mathlib.Core.List.{List, [], ◌∷◌, ◌++◌, append-nil, append_assoc}
use native.Mathlib.Omega.{arith}
use mir.Syntax.{w64}
use mir.Facts.{sfits_to_z, Fits-nat_abs}
use lib.IntN.{nat_abs}
use lib.ListN.{length, length-append}
use Rattle.ground.specs.Bytes.{byte_at, u16_at, u32_at, u64_at, i64_at, AreBytes}
use Rattle.ground.specs.Inner.Put.{Wrote}
use Rattle.ground.proofs.Put.{wrote_length}
use Rattle.ground.proofs.Back.{u16_small, u32_small, u64_small}
use Rattle.decimal.specs.Decimal.{decimal_of}
use Rattle.decimal.proofs.Spelling.{few_digits}
use Rattle.decimal.proofs.Signs.{signed_short}
use Rattle.words.proofs.Rooms.{Space, space_front}
use Rattle.parsing.specs.Parsing.{heading_at, line_from, line_at, lines_in}
use Rattle.statement.specs.declared.Line.{Line}
use Rattle.printing.specs.Printing.{refusal_pieces, refusal_text, heading_text, line_text, lines_text}
use Rattle.printing.specs.Inner.Said.{Said}

-- lines with one more at the end
pub text_more : (ls : List Line) (y : Line) → lines_text (ls ++ (y ∷ [])) ≡ lines_text ls ++ line_text y
unfolding lines_text
text_more [] y = append-nil (line_text y)
text_more (l ∷ ls) y = ap (λ (t : List ℕ). line_text l ++ t) (text_more ls y) ∙ sym (append_assoc (line_text l) (lines_text ls) (line_text y))

-- a number in 8, 16, 32 or 64 bits
short8 : (x : ℕ) → x < 256 → length (decimal_of x) ≤ 3
short8 x h = few_digits 2 x (omega arith)

short16 : (x : ℕ) → x < 2 ^ 16 → length (decimal_of x) ≤ 5
short16 x h = few_digits 4 x (omega arith)

short32 : (x : ℕ) → x < 2 ^ 32 → length (decimal_of x) ≤ 10
short32 x h = few_digits 9 x (omega arith)

short64 : (x : ℕ) → x < 2 ^ 64 → length (decimal_of x) ≤ 20
short64 x h = few_digits 19 x (omega arith)

refusal_short : (number place : ℕ) → number < 2 ^ 8 → place < 2 ^ 64 → length (refusal_text number place) ≤ 36
unfolding refusal_text
refusal_short number place h g = simp length-append (omega (arith, short8 number (omega arith), short64 place g))

module _ (number place : ℕ) (h : number < 2 ^ 8) (g : place < 2 ^ 64) (l : List ℕ) (long : 36 ≤ length l) where
  pub refusal_space : Space l 0 (refusal_pieces number place)
  unfolding refusal_text
  refusal_space = space_front (refusal_pieces number place) l (omega (arith, refusal_short number place h g))

  pub said_refusal : {b : List ℕ} {e : ℕ} → Wrote l 0 (refusal_text number place) b e → Said l (refusal_text number place) b e
  said_refusal w = record { wrote = w; within = omega (arith, w.next, wrote_length w, refusal_short number place h g) }

module _ (s : List ℕ) (b : AreBytes s) where
  pub heading_short : length (heading_text (heading_at s)) ≤ 72
  unfolding heading_text heading_at
  heading_short =
      simp length-append
      (omega
      (arith, short32 (u32_at s 16) (u32_small s b 16), short32 (u32_at s 8) (u32_small s b 8), short16 (u16_at s 6) (u16_small s b 6), short16 (u16_at s 12) (u16_small s b 12), short16 (u16_at s 14) (u16_small s b 14)))

  amount_short : (k : ℕ) → nat_abs (i64_at s k) < 2 ^ 64
  amount_short k = (Fits-nat_abs {w = w64} {w' = w64} tt (sfits_to_z {w = w64} {n = u64_at s k} (record { fits = u64_small s b k }))).fits

  pub line_short : (i : ℕ) → length (line_text (line_at s i)) ≤ 53
  unfolding line_text line_at
  line_short i =
      let k = line_from i in
      simp length-append
      (omega
      (arith, short32 (u32_at s k) (u32_small s b k), short8 (byte_at s (k + 4)) (b (k + 4)), short8 (byte_at s (k + 5)) (b (k + 5)), short32 (u32_at s (k + 8)) (u32_small s b (k + 8)), signed_short 15 (i64_at s (k + 16)) 4 (omega (arith, amount_short (k + 16)))))

  pub lines_short : (n : ℕ) → length (lines_text (lines_in s n)) ≤ n * 53
  unfolding lines_in lines_text
  lines_short zero = omega arith
  lines_short (suc n) = rw (text_more (lines_in s n) (line_at s n), length-append) (omega (arith, lines_short n, line_short n))
