-- Read and written: for bytes that are a statement, the header and the lines that are read have the very bytes of the statement.
-- Demand 2: "read and written, the same bytes". Assumes nothing.
use Prim.Native.Nat.{ℕ, zero, suc, ◌+◌, ◌*◌, ◌≤◌, ◌<◌}
use mathlib.Core.Path.{◌≡◌, sym, ap, ◌∙◌}
use mathlib.Core.List.{List, [], ◌∷◌}
use mathlib.Core.Bool.{true}
use native.Mathlib.Omega.{arith}
use lib.Dec.{eqb}
use lib.ListN.{length}
use borrow.Author.Tests.{eqb-true}
use Rattle.ground.specs.Bytes.{byte_at, u16_at, u32_at, part, AreBytes}
use Rattle.ground.specs.Le.{le16, le32}
use Rattle.ground.proofs.Every.{every}
use Rattle.ground.proofs.Part.{part_two, part_none, part_first, part_all}
use Rattle.ground.proofs.Back.{le16_part, le32_part, int64_part}
use Rattle.sections.proofs.Search.{all_each}
use Rattle.statement.specs.Statement.{rcs, heading_bytes, line_bytes, lines_bytes, statement_bytes}
use Rattle.statement.proofs.Lines.{lines_append, lines_one}
use Rattle.parsing.specs.Parsing.{heading_at, mark_tests, statement_marked, line_from, line_at, lines_in, spare_clear, line_ok, line_holds, is_statement}
use Rattle.parsing.proofs.Whole.{headed_length, headed_marked, statement_long, statement_headed, statement_lines}

module _ (s : List ℕ) (b : AreBytes s) where
  byte_part : (k : ℕ) → k + 1 ≤ length s → (byte_at s k ∷ []) ≡ part s k 1
  byte_part k h = rw (part_first s k 0 (omega arith), part_none)

  -- reserved bytes that are 0
  none16 : (k : ℕ) → k + 2 ≤ length s → u16_at s k ≡ 0 → le16 0 ≡ part s k 2
  none16 k h z = ap le16 (sym z) ∙ le16_part s b k h

  none32 : (k : ℕ) → k + 4 ≤ length s → u32_at s k ≡ 0 → le32 0 ≡ part s k 4
  none32 k h z = ap le32 (sym z) ∙ le32_part s b k h

  -- a line
  line_part : (i : ℕ) → line_from i + 24 ≤ length s → line_holds s i ≡ true → line_bytes (line_at s i) ≡ part s (line_from i) 24
  unfolding line_bytes line_at line_holds
  line_part i h z =
      let k = line_from i in
      let spare = every (eqb (u16_at s (k + 6)) 0 ∷ eqb (u32_at s (k + 12)) 0 ∷ []) (every (spare_clear s i ∷ line_ok (line_at s i) ∷ []) z).0 in
      part_two s k 16 8
      (part_two s k 12 4
      (part_two s k 8 4
      (part_two s k 6 2
      (part_two s k 5 1
      (part_two s k 4 1 (le32_part s b k (omega arith)) (byte_part (k + 4) (omega arith)))
      (byte_part (k + 5) (omega arith)))
      (none16 (k + 6) (omega arith) (eqb-true (u16_at s (k + 6)) 0 spare.0)))
      (le32_part s b (k + 8) (omega arith)))
      (none32 (k + 12) (omega arith) (eqb-true (u32_at s (k + 12)) 0 spare.1.0)))
      (int64_part s b (k + 16) (omega arith))

  -- the first n lines
  lines_part : (n : ℕ) → 24 + n * 24 ≤ length s → ((i : ℕ) → i < n → line_holds s i ≡ true) → lines_bytes (lines_in s n) ≡ part s 24 (n * 24)
  unfolding lines_in lines_bytes
  lines_part zero h z = rw part_none
  lines_part (suc n) h z =
      let last = line_part n (omega arith) (z n (omega arith)) in
      let earlier = lines_part n (omega arith) (λ i l. z i (omega arith)) in
      lines_append (lines_in s n) (line_at s n ∷ [])
      ∙ part_two s 24 (n * 24) 24 earlier (lines_one (line_at s n) ∙ last)
      ∙ ap (part s 24) (omega arith)

  -- the mark
  mark_part : 24 ≤ length s → statement_marked s ≡ true → rcs ≡ part s 0 3
  unfolding rcs
  mark_part h z =
      let t = every (mark_tests s) z in
      rw (part_first s 0 2 (omega arith), part_first s 1 1 (omega arith), part_first s 2 0 (omega arith), part_none, eqb-true (byte_at s 0) 82 t.0, eqb-true (byte_at s 1) 67 t.1.0, eqb-true (byte_at s 2) 83 t.1.1.0)

  -- the header
  heading_part : 24 ≤ length s → statement_marked s ≡ true → heading_bytes (heading_at s) ≡ part s 0 24
  unfolding heading_bytes heading_at
  heading_part h z =
      let t = every (mark_tests s) z in
      part_two s 0 20 4
      (part_two s 0 16 4
      (part_two s 0 14 2
      (part_two s 0 12 2
      (part_two s 0 8 4
      (part_two s 0 6 2
      (part_two s 0 4 2
      (part_two s 0 3 1 (mark_part h z) (ap (λ (x : ℕ). x ∷ []) (sym (eqb-true (byte_at s 3) 0 t.1.1.1.0)) ∙ byte_part 3 (omega arith)))
      (ap le16 (sym (eqb-true (u16_at s 4) 1 t.1.1.1.1.0)) ∙ le16_part s b 4 (omega arith)))
      (le16_part s b 6 (omega arith)))
      (le32_part s b 8 (omega arith)))
      (le16_part s b 12 (omega arith)))
      (le16_part s b 14 (omega arith)))
      (le32_part s b 16 (omega arith)))
      (none32 20 (omega arith) (eqb-true (u32_at s 20) 0 t.1.1.1.1.1.0))

  -- the whole statement
  pub read_and_written : is_statement s ≡ true → statement_bytes (heading_at s) (lines_in s (heading_at s).lines) ≡ s
  unfolding statement_bytes
  read_and_written q =
      let n = (heading_at s).lines in
      let long = headed_length s (statement_headed s q) in
      part_two s 0 24 (n * 24)
      (heading_part (statement_long s q) (headed_marked s (statement_headed s q)))
      (lines_part n (omega arith) (λ i l. all_each (line_holds s) n (statement_lines s q) i l))
      ∙ part_all s (24 + n * 24) (sym long)
