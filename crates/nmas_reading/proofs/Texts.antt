-- A text read row by row: what the loop needs to know, and each way in which the two calls end. Assumes nothing.
use Prim.Native.Nat.{ℕ, zero, suc, ◌+◌, ◌≤◌, ◌<◌}
use mathlib.Core.Path.{◌≡◌, refl, sym, ap, ◌∙◌}
use mathlib.Core.Bool.{Bool, cond}
use mathlib.Core.List.{List, [], ◌∷◌, ◌++◌, append-nil, append_assoc}
use native.Mathlib.Omega.{arith}
use native.Mathlib.Nat.{zero-add}
use lib.Dec.{eqb, eqb-zero-suc, eqb-suc-zero, eqb-suc-suc}
use lib.ListN.{length, length-append}
use Rattle.ground.specs.Nth.{Nth, found, past, nth}
use Rattle.ground.specs.Inner.Each.{Each}
use Rattle.ground.proofs.Each.{each_append}
use Rattle.ground.proofs.Part.{part_all}
use Rattle.decimal.specs.Standing.{Stands}
use Rattle.decimal.proofs.Standing.{stands_none, stands_two, stands_within}
use Rattle.nmas.specs.Rows.{row_text, text_of, RowFine}
use Rattle.nmas.specs.declared.Row.{Row}
use Rattle.nmas_reading.specs.Reading.{TextRead, all, part, rows_read, row_read, numbered_row, RowsOf, RowOf}
use Rattle.nmas.specs.Inner.Cells.{row_in}
use Rattle.nmas_reading.specs.Inner.Taking.{RowAt, RowFound, PlacedAt, Told, Walked}
use Rattle.nmas_reading.specs.declared.Walk.{Walk}
use Rattle.std.specs.Prelude.{Option, None, Some, Ok, Err}
use Rattle.sections.specs.Refusal.{refused}
use Rattle.sections.specs.declared.Refusal.{Refusal}
use Rattle.nmas_reading.proofs.OneRow.{row_once}
use Rattle.nmas_reading.proofs.Once.{row_some}

-- one row more
text_more : (rs : List Row) (r : Row) → text_of (rs ++ (r ∷ [])) ≡ text_of rs ++ row_text r
unfolding text_of
text_more [] r = rw append-nil
text_more (p ∷ rs) r = rw (text_more rs r, append_assoc)

-- where the row of a number among them begins
placed_more : (s : List ℕ) (k : ℕ) (rs : List Row) (r : Row) (index : ℕ) (asked : Option ℕ) → RowAt s k r (k + length (row_text r)) → PlacedAt s (nth rs index) asked → PlacedAt s (nth (rs ++ (r ∷ [])) index) (cond (eqb (length rs) index) (Some k) asked)
unfolding nth PlacedAt
placed_more s k [] r zero asked c h = c
placed_more s k [] r (suc index) (Some m) c h = absurd h
placed_more s k [] r (suc index) None c h = rw (eqb-zero-suc index) h
placed_more s k (p ∷ rs) r zero asked c h = rw (eqb-suc-zero (length rs)) h
placed_more s k (p ∷ rs) r (suc index) asked c h = rw (eqb-suc-suc (length rs) index) (placed_more s k rs r index asked c h)

-- ---- the loop: the first rows of s end at e, and where the one that is asked for begins is kept

pub record Begun (s : List ℕ) (index : ℕ) (asked : Option ℕ) (rows e : ℕ) : Type 0 where
  pub before : List Row
  pub fine : Each RowFine before
  pub stands : Stands (text_of before) s 0
  pub ends : e ≡ length (text_of before)
  pub within : e ≤ length s
  pub count : rows ≡ length before
  pub few : rows ≤ e
  pub kept : PlacedAt s (nth before index) asked

module _ (s : List ℕ) (index : ℕ) where
  pub begun_none : Begun s index None 0 0
  unfolding text_of nth PlacedAt
  begun_none =
      record { before = []; fine = tt; stands = stands_none; ends = refl; within = omega arith; count = refl; few = omega arith; kept = tt }

  module _ {asked : Option ℕ} {n e : ℕ} (b : Begun s index asked n e) where
    module _ {r : Row} {m : ℕ} (c : RowAt s e r m) where
      pub begun_forth : e < m
      begun_forth = omega (arith, c.ends, row_some r)

      next_within : m ≤ length s
      next_within = omega (arith, c.ends, stands_within (row_text r) (row_some r) c.stands)

      kept_more : {t : Bool} {next : Option ℕ} → t ≡ eqb n index → next ≡ cond t (Some e) asked → PlacedAt s (nth (b.before ++ (r ∷ [])) index) next
      kept_more q o = let here = c.ends in rw (o, q, b.count) (placed_more s e b.before r index asked (rw here at c) b.kept)

      pub begun_more : {t : Bool} {next : Option ℕ} → t ≡ eqb n index → next ≡ cond t (Some e) asked → Begun s index next (n + 1) m
      begun_more q o =
          let a = b.ends in
          let l = length-append (text_of b.before) (row_text r) in
          let long = ap length (text_more b.before r) in
          record {
            before = b.before ++ (r ∷ []);
            fine = each_append RowFine b.before (r ∷ []) b.fine (c.fine, tt);
            stands = rw text_more (stands_two b.stands (rw zero-add (rw a at c.stands)));
            ends = omega (arith, a, c.ends, l, long);
            within = next_within;
            count = omega (arith, b.count, length-append b.before (r ∷ []));
            few = omega (arith, b.few, begun_forth);
            kept = kept_more q o;
          }

    pub begun_stop : ((r : Row) (m : ℕ) → RowAt s e r m → ⊥) → e < length s → Walked s index (refused 19 n)
    unfolding Told
    begun_stop c l =
        let a = b.ends in
        record {
          reading = part b.before (record { fine = b.fine; begins = b.stands; more = rw a at l; none = λ p f t. c p (e + length (row_text p)) (record { fine = f; stands = rw a t; ends = refl }) });
          told = (refl, b.count);
        }

    pub begun_all : length s ≤ e → Walked s index (Ok (record { rows = n; asked = asked }))
    unfolding Told
    begun_all h =
        let o : length (text_of b.before) ≡ length s = omega (arith, b.ends, b.within) in
        record {
          reading = all b.before (record { fine = b.fine; same = sym b.stands.bytes ∙ part_all s (length (text_of b.before)) o });
          told = (b.count, b.kept);
        }

-- ---- the two calls

module _ {s : List ℕ} {index : ℕ} where
  module _ {e : Refusal} (c : Walked s index (Err e)) where
    refused_told : (t : TextRead s) → Told index (Err e) t → (rows_read t ≡ Err e) × (row_read t index ≡ Err e)
    unfolding Told rows_read row_read
    refused_told (all rs i) u = absurd u
    refused_told (part rs i) u =
        (λ j. Err (record { number = sym u.0 j; place = sym u.1 j }), λ j. Err (record { number = sym u.0 j; place = sym u.1 j }))

    pub rows_refused : RowsOf s (Err e)
    rows_refused = record { reading = c.reading; answer = sym (refused_told c.reading c.told).0 }

    pub row_refused : RowOf s index (Err e)
    row_refused = record { reading = c.reading; answer = sym (refused_told c.reading c.told).1 }

  module _ {w : Walk} (c : Walked s index (Ok w)) where
    rows_told : (t : TextRead s) → Told index (Ok w) t → rows_read t ≡ Ok w.rows
    unfolding Told rows_read
    rows_told (all rs i) u = ap Ok (sym u.0)
    rows_told (part rs i) u = absurd u

    pub rows_given : RowsOf s (Ok w.rows)
    rows_given = record { reading = c.reading; answer = sym (rows_told c.reading c.told) }

    none_numbered : (m : Nth Row) → PlacedAt s m None → numbered_row m ≡ refused 15 0
    unfolding PlacedAt numbered_row
    none_numbered (found p) h = absurd h
    none_numbered (past n) h = refl

    -- the row that begins at a place is the one that is read there
    read_there : (k : ℕ) (cells : List ℕ) (end : Option ℕ) (r : Row) → RowAt s k r (k + length (row_text r)) → RowFound s k cells end → row_in cells ≡ r
    read_there k cells (Some e) r t f = (row_once (row_in cells) r e (k + length (row_text r)) f t).0
    read_there k cells None r t f = absurd (f r _ t)

    module _ (k : ℕ) (cells : List ℕ) (end : Option ℕ) (o : w.asked ≡ Some k) (f : RowFound s k cells end) where
      row_numbered : (m : Nth Row) → PlacedAt s m (Some k) → numbered_row m ≡ Ok (row_in cells)
      unfolding PlacedAt numbered_row
      row_numbered (found r) h = ap Ok (sym (read_there k cells end r h f))
      row_numbered (past n) h = absurd h

      row_told : (t : TextRead s) → Told index (Ok w) t → row_read t index ≡ Ok (row_in cells)
      unfolding Told row_read
      row_told (all rs i) u = row_numbered (nth rs index) (rw o at u.1)
      row_told (part rs i) u = absurd u

      pub row_given : RowOf s index (Ok (row_in cells))
      row_given = record { reading = c.reading; answer = sym (row_told c.reading c.told) }

    module _ (o : w.asked ≡ None) where
      none_told : (t : TextRead s) → Told index (Ok w) t → row_read t index ≡ refused 15 0
      unfolding Told row_read
      none_told (all rs i) u = none_numbered (nth rs index) (rw o at u.1)
      none_told (part rs i) u = absurd u

      pub row_past : RowOf s index (refused 15 0)
      row_past = record { reading = c.reading; answer = sym (none_told c.reading c.told) }
