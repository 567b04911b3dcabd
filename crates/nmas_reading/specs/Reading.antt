-- A text of rows, read. 02, Req 05: "reading gives 19, text not of this form, out of the book's or statement's ranges, a benefit factor of 0, or
-- RECOVERY_AMOUNT not the sum of the last two, at its line, from 0."
use Rattle.std.specs.Prelude.{ℕ, ◌<◌, ◌≡◌, List, length, Result, Ok}
use Rattle.sections.specs.Refusal.{refused}
use Rattle.sections.specs.declared.Refusal.{Refusal}
use Rattle.ground.specs.Nth.{Nth, found, past, nth}
use Rattle.ground.specs.Inner.Each.{Each}
use Rattle.decimal.specs.Standing.{Stands}
use Rattle.nmas.specs.Rows.{row_text, text_of, RowFine}
use Rattle.nmas.specs.declared.Row.{Row}

-- the text is the spelling of these rows, and nothing else
pub record IsText (s : List ℕ) (rs : List Row) : Type 0 where
  pub fine : Each RowFine rs
  pub same : text_of rs ≡ s

-- the text begins with these rows and goes on, and no row stands there: that line, whose number is how many they are, is the first "not of this form"
pub record Stops (s : List ℕ) (rs : List Row) : Type 0 where
  pub fine : Each RowFine rs
  pub begins : Stands (text_of rs) s 0
  pub more : length (text_of rs) < length s
  pub none : (r : Row) → RowFine r → Stands (row_text r) s (length (text_of rs)) → ⊥

-- every text is the one or the other
pub data TextRead (s : List ℕ) : Type 0 where
  all : (rs : List Row) → IsText s rs → TextRead s
  part : (rs : List Row) → Stops s rs → TextRead s

-- how many rows, or 19 at the line
unfoldable pub rows_read : {s : List ℕ} → TextRead s → Result ℕ Refusal
rows_read (all rs t) = Ok (length rs)
rows_read (part rs t) = refused 19 (length rs)

-- "15, pool or line number past the end", at 0
unfoldable pub numbered_row : Nth Row → Result Row Refusal
numbered_row (found r) = Ok r
numbered_row (past n) = refused 15 0

-- the row of a number from 0; 19 at the line comes first
unfoldable pub row_read : {s : List ℕ} → TextRead s → ℕ → Result Row Refusal
row_read (all rs t) index = numbered_row (nth rs index)
row_read (part rs t) index = refused 19 (length rs)

-- what the two calls answer. No second answer fits: a text has one reading (proofs/Once.antt)
pub record RowsOf (s : List ℕ) (r : Result ℕ Refusal) : Type 0 where
  pub reading : TextRead s
  pub answer : r ≡ rows_read reading

pub record RowOf (s : List ℕ) (index : ℕ) (r : Result Row Refusal) : Type 0 where
  pub reading : TextRead s
  pub answer : r ≡ row_read reading index
