-- A row of the reconciliation file, and a text of rows. 02, Req 05: "one line for each contract and benefiting region"; "one row has one spelling".
use Rattle.std.specs.Prelude.{ℕ, zero, suc, ◌+◌, ◌<◌, ◌≡◌, true, List, [], ◌∷◌, ◌++◌, get_or}
use Rattle.calendar.specs.Calendar.{is_date}
use Rattle.columns.specs.Columns.{cell_text, InRange}
use Rattle.nmas.specs.declared.Row.{Row}

-- a row's fields in the order of the columns, by their sizes; SERVICE is the same in every row
abbrev pub fields_of : Row → List ℕ
fields_of r =
    r.date  -- SETTLEMENTDATE
    ∷ r.run  -- VERSIONNO
    ∷ r.interval  -- PERIODID
    ∷ r.account  -- PARTICIPANTID
    ∷ 0  -- SERVICE
    ∷ r.contract  -- CONTRACTID
    ∷ r.payment_type  -- PAYMENTTYPE
    ∷ r.region  -- REGIONID
    ∷ r.factor  -- RBF
    ∷ r.payment  -- PAYMENT_AMOUNT
    ∷ r.recovery  -- RECOVERY_AMOUNT
    ∷ r.own_ace  -- PARTICIPANT_ACE_MWH
    ∷ r.region_ace  -- REGION_ACE_MWH
    ∷ r.own_asoe  -- PARTICIPANT_ASOE_MWH
    ∷ r.region_asoe  -- REGION_ASOE_MWH
    ∷ r.by_ace  -- RECOVERYAMOUNT_ACE
    ∷ r.by_asoe  -- RECOVERYAMOUNT_ASOE
    ∷ []

-- the field of a column
abbrev pub field_of : Row → ℕ → ℕ
field_of r column = get_or (fields_of r) column 0

-- the first n fields, one behind the other, each with the byte behind it
unfoldable pub fields_text : (ℕ → ℕ) → ℕ → List ℕ
fields_text field zero = []
fields_text field (suc n) = fields_text field n ++ cell_text n (field n)

-- a row's spelling: its seventeen fields
unfoldable pub row_text : Row → List ℕ
row_text r = fields_text (field_of r) 17

-- a text of rows, one behind the other
unfoldable pub text_of : List Row → List ℕ
text_of [] = []
text_of (r ∷ rs) = row_text r ++ text_of rs

-- which rows there are: not "out of the book's or statement's ranges, a benefit factor of 0, or RECOVERY_AMOUNT not the sum of the last two"
pub record RowFine (r : Row) : Type 0 where
  pub ranges : (column : ℕ) → column < 17 → InRange column (field_of r column)
  pub date : is_date r.date ≡ true
  pub sum : r.recovery ≡ r.by_ace + r.by_asoe
