-- Fields where they stand in a text, one behind the other: a field more, fewer of them, and that a text has one reading. Assumes nothing.
use Prim.Native.Nat.{ℕ, zero, suc, ◌+◌, ◌≤◌, ◌<◌}
use mathlib.Core.Path.{◌≡◌, refl, sym, ap, ap₂, ◌∙◌}
use mathlib.Core.Logic.{⊎_elim}
use mathlib.Core.List.{List, ◌++◌}
use native.Mathlib.Omega.{arith}
use native.Mathlib.Numerals.{add-one}
use lib.ListN.{length, set, length-append, length-set}
use lib.Seq.{get_or-set_same, get_or-set_other}
use Rattle.sections.proofs.Search.{lt_or_ge}
use Rattle.std.specs.Prelude.{Option, None, Some}
use Rattle.decimal.proofs.Standing.{stands_none, stands_two, stands_first, stands_rest}
use Rattle.columns.specs.Columns.{cell_text}
use Rattle.columns_reading.specs.Inner.Taking.{CellAt}
use Rattle.columns_reading.proofs.Cells.{cell_once}
use Rattle.nmas.specs.Rows.{fields_text}
use Rattle.nmas.specs.Inner.Cells.{held}
use Rattle.nmas.proofs.Fields.{one_more}
use Rattle.nmas_reading.specs.Inner.Taking.{FieldsAt, FieldsFound, Going, Goes}

-- texts of equal fields are equal
pub same_text : (f g : ℕ → ℕ) (n : ℕ) → ((i : ℕ) → i < n → f i ≡ g i) → fields_text f n ≡ fields_text g n
unfolding fields_text
same_text f g zero h = refl
same_text f g (suc n) h = ap₂ ◌++◌ (same_text f g n (λ i l. h i (omega arith))) (ap (cell_text n) (h n (omega arith)))

module _ {s : List ℕ} {k : ℕ} where
  pub same_fields : {f g : ℕ → ℕ} {n e : ℕ} → ((i : ℕ) → i < n → f i ≡ g i) → FieldsAt s k f n e → FieldsAt s k g n e
  same_fields {f} {g} {n} h t =
      let o = same_text f g n h in
      record { ranges = λ i l. rw (← h i l) (t.ranges i l); stands = rw (← o) t.stands; ends = rw (← o) t.ends }

  pub fields_none : (f : ℕ → ℕ) → FieldsAt s k f 0 k
  unfolding fields_text
  fields_none f = record { ranges = λ i l. absurd (omega arith); stands = stands_none; ends = omega arith }

  pub fields_more : {f : ℕ → ℕ} {n m e : ℕ} → FieldsAt s k f n m → CellAt s m n (f n) e → FieldsAt s k f (n + 1) e
  fields_more {f} {n} {m} {e} t c =
      let o = t.ends in
      record {
        ranges = λ i l. ⊎_elim (λ b. t.ranges i b) (λ b. let q : i ≡ n = omega arith in rw q c.fine) (lt_or_ge i n);
        stands = rw one_more (stands_two t.stands (rw o at c.stands));
        ends = rw (one_more, length-append) (omega (arith, o, c.ends));
      }

  -- the fields but the last, and the last
  pub fields_less : {f : ℕ → ℕ} {n e : ℕ} → FieldsAt s k f (n + 1) e → FieldsAt s k f n (k + length (fields_text f n)) × CellAt s (k + length (fields_text f n)) n (f n) e
  fields_less {f} {n} {e} t =
      let both = rw (one_more f n) at t.stands in (
        record { ranges = λ i l. t.ranges i (omega arith); stands = stands_first (fields_text f n) (cell_text n (f n)) both; ends = refl },
        record {
          fine = t.ranges n (omega arith);
          stands = stands_rest (fields_text f n) (cell_text n (f n)) both;
          ends = omega (arith, t.ends, ap length (one_more f n), length-append (fields_text f n) (cell_text n (f n)));
        },
      )

  -- the first n of m fields
  pub fields_first : {f : ℕ → ℕ} (n m : ℕ) {e : ℕ} → n ≤ m → FieldsAt s k f m e → FieldsAt s k f n (k + length (fields_text f n))
  fields_first {f} n zero {e} h t = let q : n ≡ 0 = omega arith in rw q (record { ranges = t.ranges; stands = t.stands; ends = refl })
  fields_first {f} n (suc m) {e} h t =
      ⊎_elim
      (λ l. fields_first n m (omega arith) (fields_less (rw (← add-one m) at t)).0)
      (λ l. let q : n ≡ suc m = omega arith in rw q (record { ranges = t.ranges; stands = t.stands; ends = refl }))
      (lt_or_ge n (suc m))

  -- one reading
  pub fields_once : {f g : ℕ → ℕ} (n : ℕ) {d e : ℕ} → n ≤ 17 → FieldsAt s k f n d → FieldsAt s k g n e → ((i : ℕ) → i < n → f i ≡ g i) × (d ≡ e)
  unfolding fields_text
  fields_once {f} {g} zero {d} {e} h t u = (λ i l. absurd (omega arith), t.ends ∙ sym u.ends)
  fields_once {f} {g} (suc n) {d} {e} h t u =
      let a = fields_less (rw (← add-one n) at t) in
      let b = fields_less (rw (← add-one n) at u) in
      let o = fields_once n (omega arith) a.0 b.0 in
      let c = cell_once n (omega arith) s (k + length (fields_text f n)) (f n) (g n) d e a.1 (rw (← o.1) at b.1) in
      (λ i l. ⊎_elim (λ p. o.0 i p) (λ p. let q : i ≡ n = omega arith in rw q c.0) (lt_or_ge i n), c.1)

-- ---- column after column

module _ {s : List ℕ} {k : ℕ} where
  going_start : {cells : List ℕ} → length cells ≡ 17 → Going s k cells 0 (Some k)
  going_start {cells} l = record { long = l; told = fields_none (held cells) }

  going_stop : {cells : List ℕ} {n m : ℕ} → Going s k cells n None → Going s k cells m None
  going_stop c = record { long = c.long; told = c.told }

  module _ {cells : List ℕ} {n m : ℕ} (p : Going s k cells n (Some m)) (h : n < 17) where
    going_none : ((v e : ℕ) → CellAt s m n v e → ⊥) → Going s k cells (n + 1) None
    going_none c =
        record {
          long = p.long;
          told = λ field d u.
              let a = fields_less (fields_first (n + 1) 17 (omega arith) u) in
              let r = (fields_once n (omega arith) p.told a.0).1 in
              c (field n) _ (rw (← r) at a.1);
        }

    going_more : {cells' : List ℕ} {v e : ℕ} → CellAt s m n v e → cells' ≡ set cells n v → Going s k cells' (n + 1) (Some e)
    going_more {cells'} {v} {e} c o =
        let same : held cells' n ≡ v = rw o (get_or-set_same cells n v 0 (omega (arith, p.long))) in
        let before : FieldsAt s k (held cells') n m = same_fields (λ i b. rw o (sym (get_or-set_other cells n i v 0 (λ z. omega arith)))) p.told in
        record { long = ap length o ∙ length-set cells n v ∙ p.long; told = fields_more before (rw same c) }

module _ {s : List ℕ} where
  pub goes_none : {n m : ℕ} {cells : List ℕ} → n < 17 → ((v e : ℕ) → CellAt s m n v e → ⊥) → Goes s n (n + 1) cells cells m None
  goes_none l c = record { goes = λ k p. going_none p l c }

  pub goes_more : {n m v e : ℕ} {cells cells' : List ℕ} → n < 17 → CellAt s m n v e → cells' ≡ set cells n v → Goes s n (n + 1) cells cells' m (Some e)
  goes_more l c o = record { goes = λ k p. going_more p l c o }

  -- where one is not there, no call goes on
  pub goes_stop : {a b c m : ℕ} {x y : List ℕ} → Goes s a b x y m None → Goes s a c x y m None
  goes_stop f = record { goes = λ k p. going_stop (f.goes k p) }

  pub goes_on : {a b c m e : ℕ} {x y z : List ℕ} {r : Option ℕ} → Goes s a b x y m (Some e) → Goes s b c y z e r → Goes s a c x z m r
  goes_on f g = record { goes = λ k p. g.goes k (f.goes k p) }

  -- all seventeen, from no field on
  pub fields_all : {k : ℕ} {x y : List ℕ} {r : Option ℕ} → length x ≡ 17 → Goes s 0 17 x y k r → (length y ≡ 17) × FieldsFound s k y r
  fields_all {k} l f = let last = f.goes k (going_start l) in (last.long, last.told)
