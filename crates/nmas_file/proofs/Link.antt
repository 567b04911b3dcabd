-- The walk over a book's contracts meets the rows of the file's definition, in its order. Assumes nothing.
use Prim.Native.Nat.{ℕ, ◌<◌}
use mathlib.Core.Path.{◌≡◌, sym, ◌∙◌}
use Rattle.records.specs.declared.rows.Contract.{Contract}
use Rattle.locking.specs.Locking.{settled_by, pick}
use Rattle.locking.specs.declared.Source.{Source}
use Rattle.locking.specs.declared.Source.TheVariants.{Current, Locked}
use Rattle.book.specs.Book.{Book}
use Rattle.accounts.specs.Rows.{rows_of}
use Rattle.accounts.specs.Account.{public_of, rows_of_account, locked_of, own_energy}
use Rattle.accounts.specs.declared.energies.OwnEnergies.{OwnEnergies}
use Rattle.accounts.proofs.Joined.{joined_same}
use Rattle.accounts.proofs.Lists.{joined_rows}
use Rattle.lines.specs.Inner.Walks.{totals_from, own_from}
use Rattle.settlement.specs.Settle.{entry_in}
use Rattle.settlement.specs.Inner.Own.{OwnIs}
use Rattle.settlement.proofs.Link.{entry_in_lem}
use Rattle.nmas_file.specs.File.{head_of, region_rows, contract_rows, rows_by, file_rows, file_rows_for}
use Rattle.nmas_file.specs.Inner.Walks.{rows_at, book_rows}
use Rattle.nmas_file.specs.declared.Head.{Head}

-- f says that the energies read are those of the account's rows in both books
module _ (B L : Book) (account payment_type : ℕ) {own : OwnEnergies} (f : OwnIs B L account own) where
  -- the energies of the book that settles a contract
  entries_by_lem : (s : Source) (g : ℕ) → g < 5 → pick s (entry_in (rows_of B.entry 5)) (entry_in (rows_of L.entry 5)) g ≡ totals_from B.entry L.entry s g
  entries_by_lem Current = entry_in_lem B.entry
  entries_by_lem Locked = entry_in_lem L.entry

  own_by_lem : (s : Source) (g : ℕ) → g < 5 → own_from own s g ≡ pick s (own_energy (rows_of_account B account).energies) (own_energy (rows_of_account L account).energies) g
  own_by_lem Current = f.current
  own_by_lem Locked = f.locked

  paid_link : (head : Head) (s : Source) (k : Contract) → contract_rows head (pick s (entry_in (rows_of B.entry 5)) (entry_in (rows_of L.entry 5))) (pick s (own_energy (rows_of_account B account).energies) (own_energy (rows_of_account L account).energies)) k ≡ contract_rows head (totals_from B.entry L.entry s) (own_from own s) k
  unfolding region_rows
  paid_link head s k = joined_same _ _ 5 (λ g l. rw (entries_by_lem s g l, ← own_by_lem s g l))

  paid_at : (i : ℕ) → rows_by account (public_of B) (rows_of_account B account) (locked_of L account) payment_type (B.contract i) ≡ rows_at (head_of account (public_of B) payment_type) B.entry L.entry own B.contract i
  unfolding rows_by public_of locked_of rows_at
  paid_at i = paid_link (head_of account (public_of B) payment_type) (settled_by (B.contract i)) (B.contract i)

  pub rows_link : file_rows_for B L account payment_type ≡ book_rows (head_of account (public_of B) payment_type) B L own
  unfolding file_rows public_of
  rows_link = sym (joined_rows B.contract _ B.header.contracts) ∙ joined_same _ _ B.header.contracts (λ i l. paid_at i)
