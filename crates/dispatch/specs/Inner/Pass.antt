-- What a pass over dispatch rows keeps, and an answer but for its amount. Only contracts of inner functions speak of these.
use Rattle.std.specs.Prelude.{ℕ, zero, suc, ◌≤◌, ◌≡◌, List, None, Result, Ok, Err}
use Rattle.sections.specs.First.{first_bad}
use Rattle.sections.specs.declared.Refusal.{Refusal}
use Rattle.dispatch.specs.Dispatch.{dispatch_row, sum_with, row_ok}
use Rattle.dispatch.specs.Inner.Keys.{id_service_region}
use Rattle.dispatch.specs.declared.DispatchRow.{DispatchRow}

-- ---- of the last of so many rows: its key, and what its id and service come to with it; nothing before the first row

unfoldable pub last_key : (ℕ → DispatchRow) → ℕ → ℕ
last_key row zero = 0
last_key row (suc k) = id_service_region (row k)

unfoldable pub last_sum : (ℕ → DispatchRow) → ℕ → ℕ
last_sum row zero = 0
last_sum row (suc k) = sum_with row (row k).id (row k).service (suc k)

-- ---- ordinary rows

-- a fifth of the limit of a product
abbrev pub ordinary_product : ℕ
ordinary_product = 120_000_000_000

-- of n rows so many at the front have no fault, and the sum asked for is over these; how many is a matter of speed alone
pub record FrontIs (s : List ℕ) (n id service rows asked : ℕ) : Type 0 where
  pub high : rows ≤ n
  pub good : first_bad (row_ok s) rows ≡ None
  pub sum : asked ≡ sum_with (dispatch_row s) id service rows

-- ---- nothing in the place of an amount

unfoldable pub amountless : Result ℕ Refusal → Result ℕ Refusal
amountless (Ok amount) = Ok 0
amountless (Err e) = Err e
