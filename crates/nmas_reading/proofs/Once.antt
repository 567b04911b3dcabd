-- A text has one reading: rows that stand there and after which no row stands are the only ones. So text written and read gives the same rows, and
-- text that is read is, byte for byte, the spelling of its rows. Assumes nothing.
use Prim.Native.Nat.{ℕ, ◌+◌, ◌≤◌}
use mathlib.Core.Path.{◌≡◌, refl, sym, ap, ◌∙◌}
use mathlib.Core.List.{List, [], ◌∷◌, ◌++◌}
use native.Mathlib.Omega.{arith}
use native.Mathlib.Nat.{zero-add}
use lib.ListN.{length, length-append}
use Rattle.ground.specs.Nth.{nth}
use Rattle.ground.specs.Inner.Each.{Each}
use Rattle.ground.proofs.Part.{part_all}
use Rattle.decimal.specs.Standing.{Stands}
use Rattle.decimal.proofs.Standing.{stands_first, stands_rest, stands_within}
use Rattle.columns.specs.Columns.{spelled, form_of, end_of, cell_text}
use Rattle.nmas.specs.Rows.{field_of, fields_text, row_text, text_of, RowFine}
use Rattle.nmas.specs.declared.Row.{Row}
use Rattle.nmas.proofs.Fields.{longer}
use Rattle.nmas_reading.specs.Reading.{IsText, Stops, TextRead, all, part, rows_read, row_read, numbered_row, RowsOf, RowOf}
use Rattle.std.specs.Prelude.{Result, Ok}
use Rattle.sections.specs.Refusal.{refused}
use Rattle.sections.specs.declared.Refusal.{Refusal}
use Rattle.nmas_reading.proofs.OneRow.{row_once}

-- a row is not empty
first_some : (field : ℕ → ℕ) → 1 ≤ length (fields_text field 1)
unfolding fields_text cell_text
first_some field = omega (arith, length-append (spelled (form_of 0) (field 0)) (end_of 0 ∷ []))

pub row_some : (r : Row) → 1 ≤ length (row_text r)
unfolding row_text
row_some r = omega (arith, longer (field_of r) 1 17 (omega arith), first_some (field_of r))

-- no row stands in s from k
abbrev NoRow : List ℕ → ℕ → Type 0
NoRow s k = (r : Row) → RowFine r → Stands (row_text r) s k → ⊥

module _ (s : List ℕ) where
  -- two lists of rows that stand at one place, and no row behind either, are the same
  rows_once : (k : ℕ) (ps qs : List Row) → Each RowFine ps → Each RowFine qs → Stands (text_of ps) s k → Stands (text_of qs) s k → NoRow s (k + length (text_of ps)) → NoRow s (k + length (text_of qs)) → ps ≡ qs
  unfolding text_of
  rows_once k [] [] f g p q m n = refl
  rows_once k [] (b ∷ qs) f g p q m n =
      let here : k + 0 ≡ k = omega arith in
      absurd (m b g.0 (rw here (stands_first (row_text b) (text_of qs) q)))
  rows_once k (a ∷ ps) [] f g p q m n =
      let here : k + 0 ≡ k = omega arith in
      absurd (n a f.0 (rw here (stands_first (row_text a) (text_of ps) p)))
  rows_once k (a ∷ ps) (b ∷ qs) f g p q m n =
      let x = stands_first (row_text a) (text_of ps) p in
      let y = stands_first (row_text b) (text_of qs) q in
      let o = row_once a b (k + length (row_text a)) (k + length (row_text b)) (record { fine = f.0; stands = x; ends = refl }) (record { fine = g.0; stands = y; ends = refl }) in
      let d : k + length (row_text a) + length (text_of ps) ≡ k + length (row_text a ++ text_of ps) = omega (arith, length-append (row_text a) (text_of ps)) in
      let e : k + length (row_text a) + length (text_of qs) ≡ k + length (row_text b ++ text_of qs) = omega (arith, o.1, length-append (row_text b) (text_of qs)) in
      let rest = rows_once (k + length (row_text a)) ps qs f.1 g.1 (stands_rest (row_text a) (text_of ps) p) (rw (← o.1) at (stands_rest (row_text b) (text_of qs) q)) (rw d m) (rw e n) in
      λ j. o.0 j ∷ rest j

  -- behind the last byte stands no row
  none_behind : (k : ℕ) → length s ≤ k → NoRow s k
  none_behind k h r f t = omega (arith, row_some r, stands_within (row_text r) (row_some r) t)

  text_stands : (rs : List Row) → text_of rs ≡ s → Stands (text_of rs) s 0
  text_stands rs e = record { bytes = part_all s (length (text_of rs)) (ap length e) ∙ sym e }

  text_none : (rs : List Row) → text_of rs ≡ s → NoRow s (0 + length (text_of rs))
  text_none rs e = none_behind (0 + length (text_of rs)) (omega (arith, ap length e))

  stops_none : {rs : List Row} → Stops s rs → NoRow s (0 + length (text_of rs))
  stops_none {rs} t = rw zero-add t.none

  -- a text is not both
  not_both : {ps qs : List Row} → IsText s ps → Stops s qs → ⊥
  not_both {ps} {qs} t u =
      let o = rows_once 0 ps qs t.fine u.fine (text_stands ps t.same) u.begins (text_none ps t.same) (stops_none u) in
      omega (arith, ap length t.same, u.more, ap (λ (rs : List Row). length (text_of rs)) o)

  pub one_reading : (t u : TextRead s) → (rows_read t ≡ rows_read u) × ((index : ℕ) → row_read t index ≡ row_read u index)
  unfolding rows_read row_read
  one_reading (all ps t) (all qs u) =
      let o = rows_once 0 ps qs t.fine u.fine (text_stands ps t.same) (text_stands qs u.same) (text_none ps t.same) (text_none qs u.same) in
      (ap (λ (rs : List Row). Ok (length rs)) o, λ index. ap (λ (rs : List Row). numbered_row (nth rs index)) o)
  one_reading (all ps t) (part qs u) = absurd (not_both t u)
  one_reading (part ps t) (all qs u) = absurd (not_both u t)
  one_reading (part ps t) (part qs u) =
      let o = rows_once 0 ps qs t.fine u.fine t.begins u.begins (stops_none t) (stops_none u) in
      (ap (λ (rs : List Row). refused {A = ℕ} 19 (length rs)) o, λ index. ap (λ (rs : List Row). refused {A = Row} 19 (length rs)) o)

-- no second answer fits
pub rows_call_once : {s : List ℕ} {p q : Result ℕ Refusal} → RowsOf s p → RowsOf s q → p ≡ q
rows_call_once {s} a b = a.answer ∙ (one_reading s a.reading b.reading).0 ∙ sym b.answer

pub row_call_once : {s : List ℕ} {index : ℕ} {p q : Result Row Refusal} → RowOf s index p → RowOf s index q → p ≡ q
row_call_once {s} {index} a b = a.answer ∙ (one_reading s a.reading b.reading).1 index ∙ sym b.answer

-- ---- the two round trips

module _ (rs : List Row) (fine : Each RowFine rs) where
  written : TextRead (text_of rs)
  written = all rs (record { fine = fine; same = refl })

  -- written and read: as many rows, and each the same
  pub rows_written_and_read : {r : Result ℕ Refusal} → RowsOf (text_of rs) r → r ≡ Ok (length rs)
  unfolding rows_read written
  rows_written_and_read c = c.answer ∙ (one_reading (text_of rs) c.reading written).0

  pub row_written_and_read : {index : ℕ} {r : Result Row Refusal} → RowOf (text_of rs) index r → r ≡ numbered_row (nth rs index)
  unfolding row_read written
  row_written_and_read {index} c = c.answer ∙ (one_reading (text_of rs) c.reading written).1 index

-- one row has one spelling, and one spelling is of one row: rows with the same text are the same
pub one_spelling : (ps qs : List Row) → Each RowFine ps → Each RowFine qs → text_of ps ≡ text_of qs → ps ≡ qs
one_spelling ps qs f g e =
    rows_once (text_of qs) 0 ps qs f g (text_stands (text_of qs) ps e) (text_stands (text_of qs) qs refl) (text_none (text_of qs) ps e) (text_none (text_of qs) qs refl)
