-- What it says that the settlement call gives bytes, and what is then known of the account. Assumes nothing.
use Rattle.std.specs.Prelude.{Ok, Err}
use Prim.Native.Nat.{ℕ, ◌*◌, ◌+◌, ◌≤◌, ◌<◌}
use mathlib.Core.Path.{◌≡◌, refl, ap, ◌∙◌}
use mathlib.Core.Bool.{Bool, true, false, not, ◌&&◌}
use mathlib.Core.List.{List}
use mathlib.Core.Logic.{◌⊎◌, inl, inr, ⊎_elim}
use native.Mathlib.Omega.{arith}
use borrow.Author.Tests.{eqb-true}
use lib.Dec.{eqb}
use Rattle.ground.specs.Bytes.{part_from, AreBytes}
use Rattle.ground.proofs.Back.{u32_small}
use Rattle.ground.proofs.Part.{part_bytes}
use Rattle.sections.specs.Refusal.{Verdict, unrefused}
use Rattle.sections.proofs.Search.{some_found}
use Rattle.records.specs.Rows.{constraint_row, unit_row, contract_row}
use Rattle.book.specs.Header.{header_of, units_from, contracts_from}
use Rattle.book.specs.Book.{Book, book_of}
use Rattle.book.specs.Table.{locked_for, verdict}
use Rattle.book.specs.Inner.Accepted.{Sound, Promise}
use Rattle.accounts.specs.Rows.{rows_of, keep, none}
use Rattle.accounts.specs.Account.{public_of, rows_of_account, locked_of, unknown, unnamed}
use Rattle.accounts.proofs.Lists.{some_rows}
use Rattle.statement.specs.Lent.{Outcome, gives}
use Rattle.lines.specs.Limit.{any_over}
use Rattle.settlement.specs.Settle.{statement_of, settled_in, lines_for, outcome_if, outcome}
use Rattle.settlement.proofs.Settled.{apart, settled_back}
use Rattle.trips.proofs.Due.{Narrow}

-- ---- a call that gives bytes passed every check

-- 1 to 10, 17 and 18
verdict_gives : (v : Verdict) (o : Outcome) (xs : List ℕ) → outcome_if v o ≡ gives xs → (v ≡ unrefused) × (o ≡ gives xs)
unfolding outcome_if
verdict_gives (Ok _) o xs e = (refl, e)
verdict_gives (Err x) o xs e = absurd (apart x.number x.place xs e)

pub record Passed (b l : List ℕ) (account : ℕ) (xs : List ℕ) : Type 0 where
  pub book : verdict b l ≡ unrefused
  pub known : unnamed (rows_of_account (book_of b) account) (locked_of (book_of (locked_for b l)) account) ≡ false
  pub under : any_over (lines_for (book_of b) (book_of (locked_for b l)) account) ≡ false
  pub bytes : xs ≡ statement_of account (public_of (book_of b)) (rows_of_account (book_of b) account) (locked_of (book_of (locked_for b l)) account)

pub passed : (b l : List ℕ) (account : ℕ) (xs : List ℕ) → outcome b l account ≡ gives xs → Passed b l account xs
unfolding outcome
passed b l account xs e =
    let v = verdict_gives (verdict b l) (settled_in (book_of b) (book_of (locked_for b l)) account) xs e in
    let s = settled_back account (public_of (book_of b)) (rows_of_account (book_of b) account) (locked_of (book_of (locked_for b l)) account) xs v.1 in
    record { book = v.0; known = s.known; under = s.under; bytes = s.bytes }

-- ---- the account

-- an account that a row names is from 1, where each row's is
named_low : {A : Type 0} (row : ℕ → A) (n : ℕ) (f : A → ℕ) (account : ℕ) → ((i : ℕ) → i < n → 1 ≤ f (row i)) → none (keep (λ r. eqb (f r) account) (rows_of row n)) ≡ false → 1 ≤ account
named_low row n f account low e =
    let found = some_found (λ k. eqb (f (row k)) account) n (some_rows row (λ r. eqb (f r) account) n ∙ ap not e) in
    omega (arith, eqb-true (f (row found.place)) account found.passes, low found.place found.within)

one_false : (a b : Bool) → (a && b) ≡ false → (a ≡ false) ⊎ (b ≡ false)
one_false true b e = inr e
one_false false b e = inl refl

module _ (B : Book) (account : ℕ) where
  -- a row of the book names it
  known_low : Sound B → unknown (rows_of_account B account) ≡ false → 1 ≤ account
  unfolding rows_of_account
  known_low s known =
      ⊎_elim
      (named_low B.unit B.header.units (λ r. r.account) account (λ i l. (s.fields.units i l).account))
      (named_low B.energy B.header.energies (λ r. r.account) account (λ i l. (s.fields.energies i l).account))
      (one_false (none (rows_of_account B account).units) (none (rows_of_account B account).energies) known)

-- L is the book that test payments are settled by
module _ (B L : Book) (p : Promise B L) (account : ℕ) (known : unnamed (rows_of_account B account) (locked_of L account) ≡ false) where
  pub account_low : 1 ≤ account
  unfolding locked_of
  account_low =
      ⊎_elim (known_low B account p.sound) (known_low L account p.locked)
      (one_false (unknown (rows_of_account B account)) (unknown (rows_of_account L account)) known)

-- ---- ids in the bytes of a book

pub narrow : (b : List ℕ) → AreBytes b → Narrow (book_of b)
unfolding constraint_row unit_row contract_row
narrow b h =
    let h₁ = header_of b in
    record {
      constraints = λ j. u32_small (part_from 84 b) (part_bytes 84 b h) (j * 40);
      units = λ u. u32_small (part_from (units_from h₁) b) (part_bytes (units_from h₁) b h) (u * 20 + 4);
      contracts = λ k. u32_small (part_from (contracts_from h₁) b) (part_bytes (contracts_from h₁) b h) (k * 36);
    }
