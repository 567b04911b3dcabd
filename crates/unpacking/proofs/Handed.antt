-- Line i of what is handed out: its five numbers stand in the 40 bytes from place 40 x i on, and are those of line i of the statement. Assumes nothing.
use Prim.Native.Nat.{ℕ, zero, suc, ◌+◌, ◌*◌, ◌^◌, ◌≤◌, ◌<◌}
use mathlib.Core.Path.{◌≡◌, refl, sym, ap, ◌∙◌}
use mathlib.Core.Bool.{Bool, true, false}
use mathlib.Core.List.{List, [], ◌++◌, append-nil}
use native.Mathlib.Omega.{arith}
use native.Mathlib.Nat.{add-zero}
use borrow.Author.Tests.{ltb-true, ltb-false}
use lib.Dec.{ltb}
use lib.ListN.{length, drop, length-drop}
use lib.Seq.{take-append-le, drop-append-le}
use mir.Syntax.{w64}
use mir.Val.{to_z, of_z}
use mir.Facts.{of_z-to_z}
use Rattle.ground.specs.Bytes.{u64_at, i64_at, part, AreBytes}
use Rattle.ground.specs.Le.{le64, int64}
use Rattle.ground.proofs.Part.{part_between, part_u64}
use Rattle.ground.proofs.Back.{u64_stands, u32_small, u64_small}
use Rattle.statement.specs.declared.Line.{Line}
use Rattle.parsing.specs.Parsing.{line_from, line_at, lines_in}
use Rattle.parsing.proofs.Laid.{laid_length}
use Rattle.unpacking.specs.Unpacking.{fields_bytes, all_fields}
use Rattle.unpacking.proofs.Fields.{fields_length, fields_pieces}

-- ---- the bytes of line i

part_front : (xs ys : List ℕ) (k n : ℕ) → k + n ≤ length xs → part (xs ++ ys) k n ≡ part xs k n
unfolding part
part_front xs ys k n h = rw (drop-append-le k xs ys (omega arith)) (take-append-le n (drop k xs) ys (rw length-drop (omega arith)))

part_back : (xs ys : List ℕ) (k n : ℕ) → length xs ≡ k → length ys ≡ n → part (xs ++ ys) k n ≡ ys
part_back xs ys k n h g = ap (λ (l : List ℕ). part l k n) (sym (append-nil (xs ++ ys))) ∙ part_between xs ys [] k n h g

module _ (s : List ℕ) where
  long : (n : ℕ) → length (all_fields (lines_in s n)) ≡ n * 40
  long = laid_length fields_pieces s 40 fields_length

  piece : (n i : ℕ) → i < n → part (all_fields (lines_in s n)) (i * 40) 40 ≡ fields_bytes (line_at s i)
  unfolding lines_in
  piece zero i h = absurd (omega arith)
  piece (suc n) i h =
      ap (λ (l : List ℕ). part l (i * 40) 40) (fields_pieces.more (lines_in s n) (line_at s n)) ∙ by (ltb i n) refl (piece n i)
    where
      by : (t : Bool) → ltb i n ≡ t → (i < n → part (all_fields (lines_in s n)) (i * 40) 40 ≡ fields_bytes (line_at s i)) → part (all_fields (lines_in s n) ++ fields_bytes (line_at s n)) (i * 40) 40 ≡ fields_bytes (line_at s i)
      by true t earlier =
          let less = ltb-true i n t in
          part_front (all_fields (lines_in s n)) (fields_bytes (line_at s n)) (i * 40) 40 (omega (arith, long n)) ∙ earlier less
      by false t earlier =
          let same : i ≡ n = omega (arith, ltb-false i n t) in
          rw same (part_back (all_fields (lines_in s n)) (fields_bytes (line_at s n)) (n * 40) 40 (long n) (fields_length (line_at s n)))

-- ---- the numbers in them

module _ (y : Line) where
  own_id : y.id < 2 ^ 64 → u64_at (fields_bytes y) 0 ≡ y.id
  unfolding fields_bytes le64 int64
  own_id f = u64_stands [] (le64 y.part ++ le64 y.regions ++ le64 y.unit ++ int64 y.amount) y.id f

  own_part : y.part < 2 ^ 64 → u64_at (fields_bytes y) 8 ≡ y.part
  unfolding fields_bytes le64 int64
  own_part f = u64_stands (le64 y.id) (le64 y.regions ++ le64 y.unit ++ int64 y.amount) y.part f

  own_regions : y.regions < 2 ^ 64 → u64_at (fields_bytes y) 16 ≡ y.regions
  unfolding fields_bytes le64 int64
  own_regions f = u64_stands (le64 y.id ++ le64 y.part) (le64 y.unit ++ int64 y.amount) y.regions f

  own_unit_lem : y.unit < 2 ^ 64 → u64_at (fields_bytes y) 24 ≡ y.unit
  unfolding fields_bytes le64 int64
  own_unit_lem f = u64_stands (le64 y.id ++ le64 y.part ++ le64 y.regions) (int64 y.amount) y.unit f

  own_amount : of_z w64 y.amount < 2 ^ 64 → u64_at (fields_bytes y) 32 ≡ of_z w64 y.amount
  unfolding fields_bytes le64 int64
  own_amount f = u64_stands (le64 y.id ++ le64 y.part ++ le64 y.regions ++ le64 y.unit) [] (of_z w64 y.amount) f

-- the five numbers from place 40 x i of xs on are those of the line y
pub record Stands (xs : List ℕ) (i : ℕ) (y : Line) : Type 0 where
  pub id : u64_at xs (i * 40) ≡ y.id
  pub part : u64_at xs (i * 40 + 8) ≡ y.part
  pub regions : u64_at xs (i * 40 + 16) ≡ y.regions
  pub unit : u64_at xs (i * 40 + 24) ≡ y.unit
  pub amount : i64_at xs (i * 40 + 32) ≡ y.amount

module _ (s : List ℕ) (b : AreBytes s) (n i : ℕ) (h : i < n) where
  there : (j : ℕ) → j + 8 ≤ 40 → u64_at (all_fields (lines_in s n)) (i * 40 + j) ≡ u64_at (fields_bytes (line_at s i)) j
  there j g = sym (part_u64 (all_fields (lines_in s n)) (i * 40) 40 j g) ∙ ap (λ (l : List ℕ). u64_at l j) (piece s n i h)

  -- a line's amount is the number that its bits make
  bits : of_z w64 (line_at s i).amount ≡ u64_at s (line_from i + 16)
  unfolding line_at
  bits = of_z-to_z {w = w64} (record { fits = u64_small s b (line_from i + 16) })

  pub every_line_stands : Stands (all_fields (lines_in s n)) i (line_at s i)
  unfolding line_at
  every_line_stands =
      let y = line_at s i in
      let id_fits : y.id < 2 ^ 64 = omega (arith, u32_small s b (line_from i)) in
      let unit_fits : y.unit < 2 ^ 64 = omega (arith, u32_small s b (line_from i + 8)) in
      let part_fits : y.part < 2 ^ 64 = omega (arith, b (line_from i + 4)) in
      let regions_fit : y.regions < 2 ^ 64 = omega (arith, b (line_from i + 5)) in
      let amount_fits : of_z w64 y.amount < 2 ^ 64 = rw bits (u64_small s b (line_from i + 16)) in
      record {
        id = rw add-zero at (there 0 (omega arith)) ∙ own_id y id_fits;
        part = there 8 (omega arith) ∙ own_part y part_fits;
        regions = there 16 (omega arith) ∙ own_regions y regions_fit;
        unit = there 24 (omega arith) ∙ own_unit_lem y unit_fits;
        amount = ap (to_z w64) (there 32 (omega arith) ∙ own_amount y amount_fits ∙ bits);
      }
