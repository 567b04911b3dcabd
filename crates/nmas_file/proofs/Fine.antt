-- The rows of a named account of an accepted book are such as the reader takes. 02, Req 05: "read after write gives the same rows" rests on it.
-- Assumes nothing.
use Prim.Native.Nat.{ℕ, ◌/◌, ◌%◌, ◌^◌, ◌≤◌, ◌<◌}
use mathlib.Core.Path.{◌≡◌, refl}
use mathlib.Core.Bool.{Bool, true, false, cond}
use mathlib.Core.List.{List, [], ◌∷◌}
use native.Mathlib.Omega.{arith}
use borrow.Author.Tests.{leb-true, eqb-false}
use lib.Dec.{eqb, leb}
use Rattle.ground.specs.Bytes.{AreBytes}
use Rattle.ground.specs.Inner.Each.{Each}
use Rattle.ground.specs.Inner.Every.{Every}
use Rattle.ground.proofs.Every.{every}
use Rattle.calendar.specs.Calendar.{days_in, is_interval, is_date, is_run, is_period}
use Rattle.rules.specs.Rules.{factor_of}
use Rattle.rules.specs.Inner.Facts.{EntryRule}
use Rattle.records.specs.declared.rows.Entry.{Entry}
use Rattle.records.specs.declared.rows.Contract.{Contract}
use Rattle.totals.specs.Inner.Totals.{entry_of}
use Rattle.totals.specs.declared.entries.Totals.{Totals}
use Rattle.locking.specs.Locking.{settled_by}
use Rattle.locking.specs.declared.Source.{Source}
use Rattle.locking.specs.declared.Source.TheVariants.{Current, Locked}
use Rattle.book.specs.Book.{Book, book_of}
use Rattle.book.specs.Table.{locked_for}
use Rattle.book.specs.Inner.Accepted.{Promise}
use Rattle.book.proofs.Promise.{accepted}
use Rattle.accounts.specs.Account.{public_of, rows_of_account, locked_of, unnamed}
use Rattle.accounts.specs.declared.energies.OwnEnergies.{OwnEnergies}
use Rattle.accounts.proofs.Joined.{each_joined}
use Rattle.statement.specs.Lent.{gives}
use Rattle.lines.specs.Inner.Walks.{totals_from}
use Rattle.settlement.specs.Settle.{outcome}
use Rattle.settlement.specs.Inner.Own.{OwnIs}
use Rattle.settlement.proofs.Owned.{own_there, own_there_lem, own_of}
use Rattle.trips.proofs.Due.{Narrow}
use Rattle.trips.proofs.Call.{passed, account_low, narrow}
use Rattle.nmas.specs.Rows.{RowFine}
use Rattle.nmas.specs.declared.Row.{Row}
use Rattle.nmas_file.specs.File.{head_of, region_rows, file_rows_for}
use Rattle.nmas_file.specs.Inner.Walks.{HeadFine, Fileable, FileableIn, rows_at}
use Rattle.nmas_file.specs.declared.Head.{Head}
use Rattle.nmas_file.proofs.Ranges.{row_fine}
use Rattle.nmas_file.proofs.Link.{rows_link}

-- ---- dates, intervals and runs

module _ (interval date run : ℕ) (p : is_period interval date run ≡ true) where
  period : Every (is_interval interval ∷ is_date date ∷ is_run run ∷ [])
  unfolding is_period
  period = every (is_interval interval ∷ is_date date ∷ is_run run ∷ []) p

  date_small : date ≤ 99_999_999
  unfolding is_date
  date_small =
      let y = date / 10_000 in
      let m = date / 100 % 100 in
      let d = date % 100 in
      let t = every (leb 2025 y ∷ leb y 2099 ∷ leb 1 m ∷ leb m 12 ∷ leb 1 d ∷ leb d (days_in y m) ∷ []) period.1.0 in
      omega (arith, leb-true y 2099 t.1.0)

  period_fine : {account payment_type : ℕ} → 1 ≤ account → account < 2 ^ 32 → payment_type ≤ 2 → HeadFine (record { date = date; run = run; interval = interval; account = account; payment_type = payment_type })
  period_fine low small t =
      let i = every (leb 1 interval ∷ leb interval 288 ∷ []) period.0 in
      let r = every (leb 1 run ∷ leb run 99 ∷ []) period.1.1.0 in
      record {
        date = date_small;
        real = period.1.0;
        run_low = leb-true 1 run r.0;
        run_high = leb-true run 99 r.1.0;
        interval_low = leb-true 1 interval i.0;
        interval_high = leb-true interval 288 i.1.0;
        account_low = low;
        account_high = omega arith;
        payment_type = t;
      }

-- ---- a contract's rows

each_unless : (P : Row → Type 0) (t : Bool) (rs : List Row) → (t ≡ false → Each P rs) → Each P (cond t [] rs)
each_unless P true rs h = tt
each_unless P false rs h = h refl

region_fine : (head : Head) (entry : ℕ → Entry) (k : Contract) (own : Totals) → Fileable head entry k own → (g : ℕ) → g < 5 → Each RowFine (region_rows head entry (entry_of own) k g)
unfolding region_rows
region_fine head entry k own h g l =
    each_unless RowFine (eqb (factor_of k.factors g) 0) _ (λ e. (row_fine head entry k own h g l (eqb-false _ _ e), tt))

-- ---- L is the book that test payments are settled by

module _ (B L : Book) (p : Promise B L) (account payment_type : ℕ) (known : unnamed (rows_of_account B account) (locked_of L account) ≡ false) (small : account < 2 ^ 32) (t : payment_type ≤ 2) (n : Narrow B) where
  head_fine : HeadFine (head_of account (public_of B) payment_type)
  unfolding public_of
  head_fine = period_fine B.header.interval B.header.date B.header.run p.sound.period (account_low B L p account known) small t

  -- what the rows of each contract rest on
  pub fileable_of : {own : OwnEnergies} → OwnIs B L account own → (i : ℕ) → i < B.header.contracts → FileableIn (head_of account (public_of B) payment_type) B.entry L.entry own (B.contract i)
  fileable_of f i l =
      record {
        header = head_fine;
        settles = (own_of B L account p f).walk.payable i l;
        entries = entry_rule (settled_by (B.contract i));
        narrow = omega (arith, n.contracts i);
      }
    where
      entry_rule : (s : Source) (g : ℕ) → g < 5 → EntryRule (totals_from B.entry L.entry s g)
      entry_rule Current = p.sound.fields.entries
      entry_rule Locked = p.locked.fields.entries

  rows_fine : Each RowFine (file_rows_for B L account payment_type)
  unfolding rows_at
  rows_fine =
      let head = head_of account (public_of B) payment_type in
      let own = own_there B L account in
      rw (rows_link B L account payment_type (own_there_lem B L account))
      (each_joined RowFine (rows_at head B.entry L.entry own B.contract) B.header.contracts
      (λ i l. each_joined RowFine _ 5 (region_fine head _ (B.contract i) _ (fileable_of (own_there_lem B L account) i l))))

-- b is the book, and l is lent as the locked one: each row of a file that is written is fine
pub file_rows_fine : (b l : List ℕ) (account payment_type : ℕ) (xs : List ℕ) → AreBytes b → account < 2 ^ 32 → payment_type ≤ 2 → outcome b l account ≡ gives xs → Each RowFine (file_rows_for (book_of b) (book_of (locked_for b l)) account payment_type)
file_rows_fine b l account payment_type xs bytes small t e =
    let s = passed b l account xs e in
    rows_fine (book_of b) (book_of (locked_for b l)) (accepted b l s.book).promise account payment_type s.known small t (narrow b bytes)
