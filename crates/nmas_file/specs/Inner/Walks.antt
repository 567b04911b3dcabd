-- The rows of the file as a walk over the book's contracts meets them, and what that walk rests on. proofs/Link ties them to the file's own
-- definition.
use Rattle.std.specs.Prelude.{ℕ, ◌≤◌, ◌<◌, ◌≡◌, true, List}
use Rattle.calendar.specs.Calendar.{is_date}
use Rattle.rules.specs.Inner.Facts.{EntryRule}
use Rattle.records.specs.declared.rows.Entry.{Entry}
use Rattle.records.specs.declared.rows.Contract.{Contract}
use Rattle.totals.specs.declared.entries.Totals.{Totals}
use Rattle.locking.specs.Locking.{settled_by, pick}
use Rattle.accounts.specs.Rows.{joined}
use Rattle.accounts.specs.declared.energies.OwnEnergies.{OwnEnergies}
use Rattle.book.specs.Book.{Book}
use Rattle.lines.specs.Inner.Walks.{ContractSettles, totals_from, own_from}
use Rattle.nmas.specs.declared.Row.{Row}
use Rattle.nmas_file.specs.File.{contract_rows}
use Rattle.nmas_file.specs.declared.Head.{Head}

-- what the rows have in common is in range
pub record HeadFine (head : Head) : Type 0 where
  pub date : head.date ≤ 99_999_999
  pub real : is_date head.date ≡ true
  pub run_low : 1 ≤ head.run
  pub run_high : head.run ≤ 99
  pub interval_low : 1 ≤ head.interval
  pub interval_high : head.interval ≤ 288
  pub account_low : 1 ≤ head.account
  pub account_high : head.account ≤ 4_294_967_295
  pub payment_type : head.payment_type ≤ 2

-- what a contract's rows rest on
pub record Fileable (head : Head) (entry : ℕ → Entry) (k : Contract) (own : Totals) : Type 0 where
  pub header : HeadFine head
  pub settles : ContractSettles entry k own
  pub entries : (g : ℕ) → g < 5 → EntryRule (entry g)
  pub narrow : k.id ≤ 4_294_967_295

-- the rows of contract k, by the energies of the book that settles it
abbrev pub settled_rows : Head → (ℕ → Entry) → (ℕ → Entry) → OwnEnergies → Contract → List Row
settled_rows head current locked own k = contract_rows head (totals_from current locked (settled_by k)) (own_from own (settled_by k)) k

-- what they rest on
abbrev pub FileableIn : Head → (ℕ → Entry) → (ℕ → Entry) → OwnEnergies → Contract → Type 0
FileableIn head current locked own k =
    Fileable head (totals_from current locked (settled_by k)) k (pick (settled_by k) own.current own.locked)

-- those of contract i
unfoldable pub rows_at : Head → (ℕ → Entry) → (ℕ → Entry) → OwnEnergies → (ℕ → Contract) → ℕ → List Row
rows_at head current locked own contract i = settled_rows head current locked own (contract i)

-- all rows of an account as the walk meets them; L is the book that test payments are settled by
abbrev pub book_rows : Head → Book → Book → OwnEnergies → List Row
book_rows head B L own = joined (rows_at head B.entry L.entry own B.contract) B.header.contracts
