-- The walk over a book's rows meets the lines of the statement's definition, in its order. Assumes nothing.
use Prim.Native.Nat.{ℕ, ◌<◌}
use mathlib.Core.Path.{◌≡◌, refl, sym, ap₂, ◌∙◌}
use mathlib.Core.Bool.{Bool, true, false, cond}
use mathlib.Core.List.{List, [], ◌++◌}
use lib.Dec.{eqb}
use Rattle.sections.proofs.Cases.{five}
use Rattle.records.specs.declared.rows.Entry.{Entry}
use Rattle.records.specs.declared.rows.Constraint.{Constraint}
use Rattle.records.specs.declared.rows.UnitRow.{UnitRow}
use Rattle.records.specs.declared.rows.Contract.{Contract}
use Rattle.totals.specs.Divisors.{over_regions}
use Rattle.totals.specs.Inner.Totals.{entry_of}
use Rattle.locking.specs.Locking.{settled_by, pick}
use Rattle.locking.specs.declared.Source.{Source}
use Rattle.locking.specs.declared.Source.TheVariants.{Current, Locked}
use Rattle.totals.proofs.Turns.{divisor_same}
use Rattle.book.specs.Book.{Book}
use Rattle.amounts.specs.Pools.{pools_of}
use Rattle.accounts.specs.Rows.{rows_of, keep, joined, concat_map}
use Rattle.accounts.specs.Account.{public_of, rows_of_account, locked_of, own_energy}
use Rattle.accounts.specs.declared.energies.OwnEnergies.{OwnEnergies}
use Rattle.accounts.proofs.Joined.{joined_same}
use Rattle.accounts.proofs.Lists.{joined_rows, joined_keep}
use Rattle.statement.specs.declared.Line.{Line}
use Rattle.lines.specs.Lines.{unit_lines, region_lines}
use Rattle.settlement.specs.Settle.{entry_in, of_constraint, constraint_lines, contract_lines, lines_by, lines_of, lines_for}
use Rattle.lines.specs.Inner.Walks.{own_lines, unit_lines_at, con_lines, con_lines_at, contract_lines_at, totals_from, own_from, book_lines}

-- ---- the five entries

pub entry_in_lem : (f : ℕ → Entry) (g : ℕ) → g < 5 → entry_in (rows_of f 5) g ≡ f g
unfolding entry_in rows_of
entry_in_lem f = five (λ g. entry_in (rows_of f 5) g ≡ f g) refl refl refl refl refl

-- ---- unit rows

swapped : (a b : Bool) (ls : List Line) → cond a (cond b ls []) [] ≡ cond b (cond a ls []) []
swapped true true ls = refl
swapped true false ls = refl
swapped false true ls = refl
swapped false false ls = refl

units_link : (unit : ℕ → UnitRow) (m account : ℕ) (r : Constraint) → concat_map (of_constraint r) (keep (λ q. eqb q.account account) (rows_of unit m)) ≡ joined (unit_lines_at unit account r (pools_of r)) m
unfolding of_constraint unit_lines_at own_lines
units_link unit m account r =
    sym (joined_keep unit (of_constraint r) (λ q. eqb q.account account) m)
    ∙ joined_same _ _ m (λ u l. swapped (eqb (unit u).account account) (eqb (unit u).constraint r.id) (unit_lines r (pools_of r) (unit u)))

-- ---- all lines; e and f say that the energies read are those of the account's rows in both books

module _ (B L : Book) (account : ℕ) (own : OwnEnergies) (e : (g : ℕ) → g < 5 → entry_of own.current g ≡ own_energy (rows_of_account B account).energies g) (f : (g : ℕ) → g < 5 → entry_of own.locked g ≡ own_energy (rows_of_account L account).energies g) where
  con_link : (r : Constraint) → constraint_lines (entry_in (rows_of B.entry 5)) (own_energy (rows_of_account B account).energies) (rows_of_account B account).units r ≡ con_lines B.unit B.header.units account r (over_regions (entry_of own.current) r) (over_regions B.entry r)
  unfolding constraint_lines con_lines rows_of_account
  con_link r =
      rw (
        units_link B.unit B.header.units account r,
        divisor_same (entry_in (rows_of B.entry 5)) B.entry r (entry_in_lem B.entry),
        divisor_same (entry_of own.current) (own_energy (rows_of_account B account).energies) r e,
      )

  con_at : (j : ℕ) → constraint_lines (entry_in (rows_of B.entry 5)) (own_energy (rows_of_account B account).energies) (rows_of_account B account).units (B.constraint j) ≡ con_lines_at B.entry B.constraint B.unit B.header.units account own.current j
  unfolding con_lines_at
  con_at j = con_link (B.constraint j)

  -- the energies of the book that settles a contract
  entries_by_lem : (s : Source) (g : ℕ) → g < 5 → pick s (entry_in (rows_of B.entry 5)) (entry_in (rows_of L.entry 5)) g ≡ totals_from B.entry L.entry s g
  entries_by_lem Current = entry_in_lem B.entry
  entries_by_lem Locked = entry_in_lem L.entry

  own_by_lem : (s : Source) (g : ℕ) → g < 5 → own_from own s g ≡ pick s (own_energy (rows_of_account B account).energies) (own_energy (rows_of_account L account).energies) g
  own_by_lem Current = e
  own_by_lem Locked = f

  paid_link : (s : Source) (k : Contract) → contract_lines (pick s (entry_in (rows_of B.entry 5)) (entry_in (rows_of L.entry 5))) (pick s (own_energy (rows_of_account B account).energies) (own_energy (rows_of_account L account).energies)) k ≡ joined (region_lines (totals_from B.entry L.entry s) (own_from own s) k) 5
  unfolding contract_lines region_lines
  paid_link s k = joined_same _ _ 5 (λ g l. rw (entries_by_lem s g l, ← own_by_lem s g l))

  paid_at : (k : ℕ) → lines_by (public_of B) (rows_of_account B account) (locked_of L account) (B.contract k) ≡ contract_lines_at (totals_from B.entry L.entry) (own_from own) B.contract k
  unfolding lines_by public_of locked_of contract_lines_at
  paid_at k = paid_link (settled_by (B.contract k)) (B.contract k)

  pub lines_link : lines_for B L account ≡ book_lines B L account own
  unfolding lines_of public_of book_lines
  lines_link =
      ap₂ ◌++◌
      (sym (joined_rows B.constraint _ B.header.constraints) ∙ joined_same _ _ B.header.constraints (λ j l. con_at j))
      (sym (joined_rows B.contract _ B.header.contracts) ∙ joined_same _ _ B.header.contracts (λ k l. paid_at k))
