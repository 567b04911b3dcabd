-- A row where it stands in a text, read field by field, and a text read row by row.
use Rattle.std.specs.Prelude.{ℕ, ◌+◌, ◌<◌, ◌≡◌, Bool, ◌&&◌, List, eqb, length, Option, None, Some, MatchOption, Result, Ok, Err}
use Rattle.sections.specs.declared.Refusal.{Refusal}
use Rattle.calendar.specs.Calendar.{is_date}
use Rattle.ground.specs.Nth.{Nth, found, past, nth}
use Rattle.decimal.specs.Standing.{Stands, Spelled}
use Rattle.columns.specs.Columns.{InRange}
use Rattle.nmas.specs.Rows.{fields_text, row_text, RowFine}
use Rattle.nmas.specs.Inner.Cells.{held, row_in}
use Rattle.nmas.specs.declared.Row.{Row}
use Rattle.nmas_reading.specs.Reading.{TextRead, all, part}
use Rattle.nmas_reading.specs.declared.Walk.{Walk}

-- the first n fields, in their ranges, are spelled in s from k to e
pub record FieldsAt (s : List ℕ) (k : ℕ) (field : ℕ → ℕ) (n e : ℕ) : Type 0 where
  pub ranges : (column : ℕ) → column < n → InRange column (field column)
  pub stands : Stands (fields_text field n) s k
  pub ends : e ≡ k + length (fields_text field n)

-- the first n fields of a row at k were found up to an end, and cells holds them, or no row's fields are there
abbrev pub Gathered : List ℕ → ℕ → List ℕ → ℕ → Option ℕ → Type 0
Gathered s k cells n r = MatchOption r ((field : ℕ → ℕ) (e : ℕ) → FieldsAt s k field 17 e → ⊥) (λ e. FieldsAt s k (held cells) n e)

-- seventeen fields were found, or there are not so many
abbrev pub FieldsFound : List ℕ → ℕ → List ℕ → Option ℕ → Type 0
FieldsFound s k cells r = Gathered s k cells 17 r

-- what was gathered so far, in cells that have room for all seventeen
pub record Going (s : List ℕ) (k : ℕ) (cells : List ℕ) (n : ℕ) (r : Option ℕ) : Type 0 where
  pub long : length cells ≡ 17
  pub told : Gathered s k cells n r

-- a call that reads the fields from n up to m: wherever the row begins, if those before end at place, it goes on
pub record Goes (s : List ℕ) (n m : ℕ) (before after : List ℕ) (place : ℕ) (r : Option ℕ) : Type 0 where
  pub goes : (k : ℕ) → Going s k before n (Some place) → Going s k after m r

-- whether the date is a real one, and RECOVERY_AMOUNT "the sum of the last two"
abbrev pub row_keeps : ℕ → ℕ → ℕ → ℕ → Bool
row_keeps date recovery by_ace by_asoe = is_date date && eqb recovery (by_ace + by_asoe)

-- a row is spelled in s from k to e
abbrev pub RowAt : List ℕ → ℕ → Row → ℕ → Type 0
RowAt s k r e = Spelled RowFine row_text s k r e

-- a row was read up to an end, and cells holds it, or no row stands there
abbrev pub RowFound : List ℕ → ℕ → List ℕ → Option ℕ → Type 0
RowFound s k cells r = MatchOption r ((row : Row) (e : ℕ) → RowAt s k row e → ⊥) (λ e. RowAt s k (row_in cells) e)

-- where the row of a number begins, if there is one
unfoldable pub PlacedAt : List ℕ → Nth Row → Option ℕ → Type 0
PlacedAt s (found r) (Some k) = RowAt s k r (k + length (row_text r))
PlacedAt s (found r) None = ⊥
PlacedAt s (past n) (Some k) = ⊥
PlacedAt s (past n) None = Unit

-- what a walk over a text says of its reading, and where the row of a number begins, if there is one
unfoldable pub Told : {s : List ℕ} → ℕ → Result Walk Refusal → TextRead s → Type 0
Told {s} index (Ok w) (all rs t) = (w.rows ≡ length rs) × PlacedAt s (nth rs index) w.asked
Told index (Ok w) (part rs t) = ⊥
Told index (Err e) (all rs t) = ⊥
Told index (Err e) (part rs t) = (e.number ≡ 19) × (e.place ≡ length rs)

pub record Walked (s : List ℕ) (index : ℕ) (r : Result Walk Refusal) : Type 0 where
  pub reading : TextRead s
  pub told : Told index r reading
