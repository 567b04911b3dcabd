-- Payments and base costs, made from dispatch rows. 02, Req 01: "a region's payment is price x enablement / 12, and a constraint's regional base
-- cost is marginal value x enablement / 12."
-- Both are functions of the dispatch rows alone, in which no account has a figure. So a cost that is made here is public, as one that is typed in
-- is: "Demands 2 and 3 read costs as public whichever way they came." (`CostsArePublic`, crates/demands/specs/Demand3.antt)
use Rattle.std.specs.Prelude.{ℕ, ◌+◌, ◌*◌, ◌/◌, List, Bool, cond, ◌&&◌, ◌||◌, eqb, leb, ltb, length, Result, Ok, Err}
use Rattle.numbers.specs.Round.{round_n}
use Rattle.ground.specs.Bytes.{byte_at, u16_at, u32_at}
use Rattle.ground.specs.Units.{money_limit, price_limit}
use Rattle.sections.specs.First.{first_bad}
use Rattle.sections.specs.Order.{rises_by, pair_below}
use Rattle.sections.specs.Refusal.{Verdict, at_record}
use Rattle.sections.specs.Total.{keyed, total_of}
use Rattle.sections.specs.declared.Refusal.{Refusal}
use Rattle.dispatch.specs.declared.DispatchRow.{DispatchRow}

-- ---- the rows

-- "Rows of 16 bytes come in a slice of their own: id u32, service u8, region u8, reserved u16, price u32 in cents, to 2,500,000, enablement u32 in
-- hundredths of a MW, to 1,000,000."
unfoldable pub dispatch_row : List ℕ → ℕ → DispatchRow
dispatch_row s i =
    record {
      id = u32_at s (i * 16);
      service = byte_at s (i * 16 + 4);
      region = byte_at s (i * 16 + 5);
      spare = u16_at s (i * 16 + 6);
      price = u32_at s (i * 16 + 8);
      enablement = u32_at s (i * 16 + 12);
    }

-- how many rows a slice has: a last one that is cut short is one too
abbrev pub rows_in : List ℕ → ℕ
rows_in s = (length s + 15) / 16

abbrev pub enablement_limit : ℕ
enablement_limit = 1_000_000

-- the ranges: as in a book, service is 1 to 10, region 0 to 4 and what is reserved 0
abbrev pub row_in_range : DispatchRow → Bool
row_in_range r =
    leb 1 r.service
    && leb r.service 10
    && leb r.region 4
    && eqb r.spare 0
    && leb r.price price_limit
    && leb r.enablement enablement_limit

-- "Rows rise strictly by id, service, region."
abbrev pub row_below : DispatchRow → DispatchRow → Bool
row_below a b = ltb a.id b.id || (eqb a.id b.id && pair_below a.service a.region b.service b.region)

-- ---- the amounts

-- "price x enablement": cents times hundredths of a MW are ten-thousandths of a dollar, which are the units of money
abbrev pub product_of : DispatchRow → ℕ
product_of r = r.price * r.enablement

abbrev pub product_limit : ℕ
product_limit = 600_000_000_000

-- "Each product over 12 is rounded to units of money."
unfoldable pub amount_of : DispatchRow → ℕ
amount_of r = round_n (product_of r) 12

-- "sums over their rows, 0 without any": of the first n rows those that have the id and the service
unfoldable pub sum_with : (ℕ → DispatchRow) → ℕ → ℕ → ℕ → ℕ
sum_with row id service n = total_of (λ i. (row i).id) id (keyed (λ i. (row i).service) service (λ i. amount_of (row i))) n

-- ---- the refusal

-- a row that is not "cut short, out of range, not rising, has a product above 600,000,000,000 or takes a sum past 50,000,000,000": the sum of the
-- rows up to it that have its own id and service
unfoldable pub row_ok : List ℕ → ℕ → Bool
row_ok s i =
    leb ((i + 1) * 16) (length s)
    && row_in_range (dispatch_row s i)
    && rises_by row_below (dispatch_row s) i
    && leb (product_of (dispatch_row s i)) product_limit
    && leb (sum_with (dispatch_row s) (dispatch_row s i).id (dispatch_row s i).service (i + 1)) money_limit

-- "Refusals: 16, the only one of this call, at the first row" that is not so; row i stands at 16 * i
unfoldable pub rows_verdict : List ℕ → Verdict
rows_verdict s = at_record 16 0 16 (first_bad (row_ok s) (rows_in s))

unfoldable pub cost_if : Verdict → ℕ → Result ℕ Refusal
cost_if (Ok _) amount = Ok amount
cost_if (Err e) amount = Err e

-- ---- the calls

-- "Id 0 marks a payment row"; "A service's payment"
unfoldable pub payment : List ℕ → ℕ → Result ℕ Refusal
payment s service = cost_if (rows_verdict s) (sum_with (dispatch_row s) 0 service (rows_in s))

-- "any other id names a constraint and its price is the marginal value"; "an id's base cost per service": payment rows are nobody's
unfoldable pub base_cost : List ℕ → ℕ → ℕ → Result ℕ Refusal
base_cost s id service = cost_if (rows_verdict s) (cond (eqb id 0) 0 (sum_with (dispatch_row s) id service (rows_in s)))
