-- No file is longer than 13,680 bytes: at most 16 contracts in 5 regions, and a row has at most 171 bytes. Assumes nothing.
use Prim.Native.Nat.{ℕ, zero, suc, ◌+◌, ◌*◌, ◌/◌, ◌^◌, ◌≤◌, ◌<◌}
use mathlib.Core.Path.{◌≡◌, refl}
use mathlib.Core.Bool.{Bool, true, false, cond}
use mathlib.Core.List.{List, [], ◌∷◌}
use native.Mathlib.Omega.{arith}
use borrow.Author.Tests.{leb-false}
use lib.Dec.{eqb, leb}
use lib.ListN.{length, get_or, length-append}
use Rattle.sections.specs.Total.{total}
use Rattle.ground.specs.Bytes.{AreBytes}
use Rattle.ground.specs.Inner.Each.{Each}
use Rattle.rules.specs.Rules.{factor_of}
use Rattle.records.specs.declared.rows.Entry.{Entry}
use Rattle.records.specs.declared.rows.Contract.{Contract}
use Rattle.book.specs.Book.{Book, book_of}
use Rattle.book.specs.Table.{locked_for}
use Rattle.book.proofs.Promise.{accepted}
use Rattle.accounts.specs.Account.{public_of}
use Rattle.accounts.proofs.Joined.{joined_bound}
use Rattle.accounts.specs.Rows.{joined}
use Rattle.accounts.specs.declared.energies.OwnEnergies.{OwnEnergies}
use Rattle.totals.specs.Inner.Totals.{entry_of}
use Rattle.totals.specs.declared.entries.Totals.{Totals}
use Rattle.locking.specs.Locking.{settled_by, pick}
use Rattle.lines.specs.Inner.Walks.{totals_from}
use Rattle.sections.proofs.Cases.{is_zero}
use mathlib.Core.Logic.{⊎_elim}
use Rattle.nmas.specs.Inner.Cells.{held}
use Rattle.nmas.proofs.Wide.{row_wide}
use Rattle.nmas_file.proofs.Regions.{none_long, region_ranges, text_one}
use Rattle.nmas_file.proofs.Texts.{text_bound}
use Rattle.statement.specs.Lent.{Outcome, refuses, gives}
use Rattle.settlement.specs.Settle.{outcome}
use Rattle.settlement.proofs.Settled.{apart}
use Rattle.settlement.proofs.Owned.{own_there, own_there_lem}
use Rattle.trips.proofs.Call.{passed}
use Rattle.nmas.specs.Rows.{fields_of, field_of, fields_text, row_text, text_of, RowFine}
use Rattle.nmas.specs.declared.Row.{Row}
use Rattle.nmas_file.specs.File.{head_of, row_with, region_rows, contract_rows, file_rows_for, instead, file_outcome}
use Rattle.nmas_file.specs.Inner.Walks.{Fileable, FileableIn, rows_at}
use Rattle.nmas_file.specs.declared.Head.{Head}
use Rattle.nmas_file.proofs.Link.{rows_link}
use Rattle.nmas_file.proofs.Fine.{file_rows_fine}

-- ---- how long rows are

pub row_short : (r : Row) → RowFine r → length (row_text r) ≤ 171
unfolding row_text
row_short r h = row_wide (field_of r) h.ranges

rows_short : (rs : List Row) → Each RowFine rs → length (text_of rs) ≤ length rs * 171
unfolding text_of
rows_short [] h = omega arith
rows_short (r ∷ rs) h = rw length-append (omega (arith, row_short r h.0, rows_short rs h.1))

-- ---- how long a contract's rows are, and those of several

module _ (head : Head) (entry : ℕ → Entry) (own : Totals) (k : Contract) (h : Fileable head entry k own) where
  region_short : (g : ℕ) → g < 5 → length (text_of (region_rows head entry (entry_of own) k g)) ≤ 171
  region_short g l =
      ⊎_elim (λ e. rw (none_long head entry own k g e) (omega arith))
      (λ d. rw (text_one head entry own k g d refl) (row_wide (held (fields_of (row_with head entry (entry_of own) k g))) (region_ranges head entry own k g d refl h l)))
      (is_zero (factor_of k.factors g))

  contract_short : length (text_of (contract_rows head entry (entry_of own) k)) ≤ 855
  contract_short = text_bound (region_rows head entry (entry_of own) k) 171 5 region_short

module _ (head : Head) (current locked : ℕ → Entry) (own : OwnEnergies) (contract : ℕ → Contract) where
  settled_short : (i : ℕ) → FileableIn head current locked own (contract i) → length (text_of (rows_at head current locked own contract i)) ≤ 855
  unfolding rows_at
  settled_short i h =
      let s = settled_by (contract i) in
      contract_short head (totals_from current locked s) (pick s own.current own.locked) (contract i) h

  pub contracts_short : (n : ℕ) → ((i : ℕ) → i < n → FileableIn head current locked own (contract i)) → length (text_of (joined (rows_at head current locked own contract) n)) ≤ n * 855
  contracts_short n h = text_bound (rows_at head current locked own contract) 855 n (λ i l. settled_short i (h i l))

-- ---- how many rows there are

one_or_none : (t : Bool) (r : Row) → length (cond t [] (r ∷ [])) ≤ 1
one_or_none true r = omega arith
one_or_none false r = omega arith

one_at_most : (head : Head) (entry own : ℕ → Entry) (k : Contract) (g : ℕ) → length (region_rows head entry own k g) ≤ 1
unfolding region_rows
one_at_most head entry own k g = one_or_none (eqb (factor_of k.factors g) 0) _

rows_few : (B L : Book) (account payment_type : ℕ) → B.header.contracts ≤ 16 → length (file_rows_for B L account payment_type) ≤ 80
unfolding rows_at
rows_few B L account payment_type few =
    let head = head_of account (public_of B) payment_type in
    rw (rows_link B L account payment_type (own_there_lem B L account))
    (omega (arith, joined_bound (rows_at head B.entry L.entry (own_there B L account) B.contract) 5 B.header.contracts (λ i. joined_bound (region_rows head _ _ (B.contract i)) 1 5 (λ g. one_at_most head _ _ (B.contract i) g))))

-- ---- the call

-- where the file has a text the statement has bytes
instead_gives : (o : Outcome) (ys xs : List ℕ) → instead o ys ≡ gives xs → (ys ≡ xs) × ((P : Type 0) → ((zs : List ℕ) → o ≡ gives zs → P) → P)
unfolding instead
instead_gives (refuses number place) ys xs e = absurd (apart number place xs e)
instead_gives (gives zs) ys xs e = (cc, λ P f. f zs refl)

type_gives : (t : Bool) (o : Outcome) (xs : List ℕ) → cond t (refuses 15 0) o ≡ gives xs → (t ≡ false) × (o ≡ gives xs)
type_gives true o xs e = absurd (apart 15 0 xs e)
type_gives false o xs e = (refl, e)

-- b is the book, and l is lent as the locked one
pub file_length : (b l : List ℕ) (account payment_type : ℕ) (xs : List ℕ) → AreBytes b → account < 2 ^ 32 → file_outcome b l account payment_type ≡ gives xs → length xs ≤ 13_680
unfolding file_outcome
file_length b l account payment_type xs bytes small e =
    let t = type_gives (leb 3 payment_type) (instead (outcome b l account) (text_of (file_rows_for (book_of b) (book_of (locked_for b l)) account payment_type))) xs e in
    let i = instead_gives (outcome b l account) _ xs t.1 in
    rw (← i.0)
    (i.1 _ (λ zs o.
    let few = (accepted b l (passed b l account zs o).book).promise.sound.few.contracts in
    let fine = file_rows_fine b l account payment_type zs bytes small (omega (arith, leb-false 3 payment_type t.0)) o in
    omega (arith, rows_short (file_rows_for (book_of b) (book_of (locked_for b l)) account payment_type) fine, rows_few (book_of b) (book_of (locked_for b l)) account payment_type few)))
