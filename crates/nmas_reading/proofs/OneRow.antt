-- A row where it stands in a text: its fields, and what is asked of them together. A text has one row at a place. Assumes nothing.
use Prim.Native.Nat.{ℕ, zero, suc, ◌+◌, ◌<◌}
use mathlib.Core.Path.{◌≡◌, refl, sym, ◌∙◌}
use mathlib.Core.Bool.{Bool, true, false, false≢true}
use mathlib.Core.List.{List}
use native.Mathlib.Omega.{arith}
use borrow.Author.Tests.{eq-eqb, eqb-true}
use lib.Dec.{eqb}
use Rattle.calendar.specs.Calendar.{is_date}
use Rattle.std.specs.Bool.{then_some}
use Rattle.std.proofs.lemmas.Bool.{and_parts}
use Rattle.nmas.specs.Rows.{field_of, row_text, RowFine}
use Rattle.nmas.specs.Inner.Cells.{held, row_in}
use Rattle.nmas.specs.declared.Row.{Row}
use Rattle.nmas_reading.specs.Inner.Taking.{FieldsAt, row_keeps, RowAt, RowFound}
use Rattle.nmas_reading.proofs.Fields.{same_fields, fields_once}

-- ---- a row by its fields

module _ (cells : List ℕ) (service : held cells 4 ≡ 0) where
  holds : (i : ℕ) → i < 17 → field_of (row_in cells) i ≡ held cells i
  holds zero h = refl
  holds (suc zero) h = refl
  holds (suc (suc zero)) h = refl
  holds (suc (suc (suc zero))) h = refl
  holds (suc (suc (suc (suc zero)))) h = sym service
  holds (suc (suc (suc (suc (suc zero))))) h = refl
  holds (suc (suc (suc (suc (suc (suc zero)))))) h = refl
  holds (suc (suc (suc (suc (suc (suc (suc zero))))))) h = refl
  holds (suc (suc (suc (suc (suc (suc (suc (suc zero)))))))) h = refl
  holds (suc (suc (suc (suc (suc (suc (suc (suc (suc zero))))))))) h = refl
  holds (suc (suc (suc (suc (suc (suc (suc (suc (suc (suc zero)))))))))) h = refl
  holds (suc (suc (suc (suc (suc (suc (suc (suc (suc (suc (suc zero))))))))))) h = refl
  holds (suc (suc (suc (suc (suc (suc (suc (suc (suc (suc (suc (suc zero)))))))))))) h = refl
  holds (suc (suc (suc (suc (suc (suc (suc (suc (suc (suc (suc (suc (suc zero))))))))))))) h = refl
  holds (suc (suc (suc (suc (suc (suc (suc (suc (suc (suc (suc (suc (suc (suc zero)))))))))))))) h = refl
  holds (suc (suc (suc (suc (suc (suc (suc (suc (suc (suc (suc (suc (suc (suc (suc zero))))))))))))))) h = refl
  holds (suc (suc (suc (suc (suc (suc (suc (suc (suc (suc (suc (suc (suc (suc (suc (suc zero)))))))))))))))) h = refl
  holds (suc (suc (suc (suc (suc (suc (suc (suc (suc (suc (suc (suc (suc (suc (suc (suc (suc i))))))))))))))))) h = absurd (omega arith)

-- equal fields, equal rows
pub same_row : (p q : Row) → ((i : ℕ) → i < 17 → field_of p i ≡ field_of q i) → p ≡ q
same_row p q h = λ j. record { date = h 0 (omega arith) j; run = h 1 (omega arith) j; interval = h 2 (omega arith) j; account = h 3 (omega arith) j; contract = h 5 (omega arith) j; payment_type = h 6 (omega arith) j; region = h 7 (omega arith) j; factor = h 8 (omega arith) j; payment = h 9 (omega arith) j; recovery = h 10 (omega arith) j; own_ace = h 11 (omega arith) j; region_ace = h 12 (omega arith) j; own_asoe = h 13 (omega arith) j; region_asoe = h 14 (omega arith) j; by_ace = h 15 (omega arith) j; by_asoe = h 16 (omega arith) j }

module _ {s : List ℕ} {k : ℕ} where
  row_fields : {r : Row} {e : ℕ} → RowAt s k r e → FieldsAt s k (field_of r) 17 e
  unfolding row_text
  row_fields t = record { ranges = t.fine.ranges; stands = t.stands; ends = t.ends }

  -- a text has one row at a place
  pub row_once : (p q : Row) (d e : ℕ) → RowAt s k p d → RowAt s k q e → (p ≡ q) × (d ≡ e)
  row_once p q d e t u =
      let o = fields_once 17 (omega arith) (row_fields t) (row_fields u) in
      (same_row p q o.0, o.1)

-- ---- what is asked of the fields together

keeps_row : (r : Row) → RowFine r → row_keeps r.date r.recovery r.by_ace r.by_asoe ≡ true
keeps_row r f = rw (f.date, eq-eqb r.recovery (r.by_ace + r.by_asoe) f.sum)

module _ {s : List ℕ} {k : ℕ} (cells : List ℕ) {e : ℕ} (t : FieldsAt s k (held cells) 17 e) where
  service : held cells 4 ≡ 0
  service = omega (arith, (t.ranges 4 (omega arith)).1)

  held_row : FieldsAt s k (field_of (row_in cells)) 17 e
  held_row = same_fields (λ i h. sym (holds cells service i h)) t

  module _ {g : Bool} (c : g ≡ row_keeps (held cells 0) (held cells 10) (held cells 15) (held cells 16)) where
    found : g ≡ true → RowAt s k (row_in cells) e
    unfolding row_text
    found h =
        let b = and_parts (is_date (held cells 0)) (eqb (held cells 10) (held cells 15 + held cells 16)) (sym c ∙ h) in
        record {
          fine = record { ranges = held_row.ranges; date = b.0; sum = eqb-true (held cells 10) (held cells 15 + held cells 16) b.1 };
          stands = held_row.stands;
          ends = held_row.ends;
        }

    none : g ≡ false → (r : Row) (d : ℕ) → RowAt s k r d → ⊥
    none h r d u =
        let o = (fields_once 17 (omega arith) (row_fields u) t).0 in
        let same : row_keeps r.date r.recovery r.by_ace r.by_asoe ≡ row_keeps (held cells 0) (held cells 10) (held cells 15) (held cells 16) =
        λ j. row_keeps (o 0 (omega arith) j) (o 10 (omega arith) j) (o 15 (omega arith) j) (o 16 (omega arith) j) in
        false≢true (sym h ∙ c ∙ sym same ∙ keeps_row r u.fine)

    pub row_decided : RowFound s k cells (then_some g e)
    row_decided = by g refl
      where
        by : (t : Bool) → g ≡ t → RowFound s k cells (then_some t e)
        by true h = found h
        by false h = none h

-- there are not so many fields, so there is no row
pub row_none : {s : List ℕ} {k : ℕ} → ((field : ℕ → ℕ) (e : ℕ) → FieldsAt s k field 17 e → ⊥) → (r : Row) (e : ℕ) → RowAt s k r e → ⊥
row_none c r e u = c (field_of r) e (row_fields u)
