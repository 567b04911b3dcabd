-- The columns of the reconciliation file. 02, Req 05: "the post-2024 fields of source document 003: its first ten, RECOVERY_AMOUNT and its last
-- six"; "Numbers have four decimals for money, three for MWh, six for the benefit factor"; "comma-separated text", "lines end in a line feed".
use Rattle.std.specs.Prelude.{ℕ, ◌≤◌, true, false, cond, List, [], ◌∷◌, ◌++◌, eqb, get_or, Option, None, Some}
use Rattle.ground.specs.Units.{million, money_limit, energy_limit}
use Rattle.numbers.specs.Sign.{signed}
use Rattle.market.specs.Words.{region_name, payment_type_name, restart_name}
use Rattle.decimal.specs.Decimal.{signed_text}
use Rattle.columns.specs.declared.Form.{Form}
use Rattle.columns.specs.declared.Words.{Words}
use Rattle.columns.specs.declared.Words.TheVariants.{Service, PaymentType, Region}

-- a column of numbers of 0 and above, with so many decimals: the least and the most
abbrev pub number_form : ℕ → ℕ → ℕ → Form
number_form decimals least most = record { words = None; charge = false; decimals = decimals; least = least; most = most }

-- a column of numbers of 0 and below, by their sizes: what an account has to pay, and ACE
abbrev pub charge_form : ℕ → ℕ → Form
charge_form decimals most = record { words = None; charge = true; decimals = decimals; least = 0; most = most }

-- a column of words, by their numbers
abbrev pub word_form : Words → ℕ → Form
word_form words most = record { words = Some words; charge = false; decimals = 0; least = 0; most = most }

-- the seventeen, in their order, each with "the book's or statement's ranges". That a date is a real one, and that RECOVERY_AMOUNT is "the sum of
-- the last two", is asked of the row.
abbrev pub columns : List Form
columns =
    number_form 0 0 99_999_999  -- SETTLEMENTDATE
    ∷ number_form 0 1 99  -- VERSIONNO, the run
    ∷ number_form 0 1 288  -- PERIODID, the interval
    ∷ number_form 0 1 4_294_967_295  -- PARTICIPANTID, the account
    ∷ word_form Service 0  -- SERVICE
    ∷ number_form 0 1 4_294_967_295  -- CONTRACTID
    ∷ word_form PaymentType 2  -- PAYMENTTYPE
    ∷ word_form Region 4  -- REGIONID
    ∷ number_form 6 1 million  -- RBF
    ∷ number_form 4 0 money_limit  -- PAYMENT_AMOUNT
    ∷ charge_form 4 100_000_000_000  -- RECOVERY_AMOUNT
    ∷ charge_form 3 energy_limit  -- PARTICIPANT_ACE_MWH
    ∷ charge_form 3 energy_limit  -- REGION_ACE_MWH
    ∷ number_form 3 0 energy_limit  -- PARTICIPANT_ASOE_MWH
    ∷ number_form 3 0 energy_limit  -- REGION_ASOE_MWH
    ∷ charge_form 4 money_limit  -- RECOVERYAMOUNT_ACE
    ∷ charge_form 4 money_limit  -- RECOVERYAMOUNT_ASOE
    ∷ []

abbrev pub form_of : ℕ → Form
form_of column = get_or columns column (number_form 0 0 0)

-- how x is spelled in a column: a number with its decimals and its minus, "no spare leading zeros, no -0", or a word
abbrev pub spelled_by : Option Words → Form → ℕ → List ℕ
spelled_by None f x = signed_text (signed f.charge x) f.decimals
spelled_by (Some Service) f x = restart_name
spelled_by (Some PaymentType) f x = payment_type_name x
spelled_by (Some Region) f x = region_name x

unfoldable pub spelled : Form → ℕ → List ℕ
spelled f x = spelled_by f.words f x

-- the byte behind it: a line feed, 10, behind the last, and a comma, 44, behind any other
abbrev pub end_of : ℕ → ℕ
end_of column = cond (eqb column 16) 10 44

-- a field of the text: x in a column, and the byte behind it
unfoldable pub cell_text : ℕ → ℕ → List ℕ
cell_text column x = spelled (form_of column) x ++ (end_of column ∷ [])

-- whether x is in the column's range, by its size or, of a word, by its number
abbrev pub InRange : ℕ → ℕ → Type 0
InRange column x = ((form_of column).least ≤ x) × (x ≤ (form_of column).most)
