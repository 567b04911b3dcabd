-- Demand 2: every line of an accepted book's statement is the guide's. The records by their sizes say what the records with their signs say
-- (Sized), each kind of line is the guide's (Lines), both go over the same records in the same order, and both take a contract's energies from the same
-- book. Assumes nothing.
use Prim.Native.Nat.{ℕ, ◌+◌, ◌<◌}
use mathlib.Core.Path.{◌≡◌, sym, ap, ap₂, ◌∙◌}
use mathlib.Core.Bool.{Bool, ◌&&◌}
use mathlib.Core.List.{List, [], ◌∷◌, ◌++◌}
use lib.Dec.{eqb}
use lib.IntN.{pos, neg_ℤ}
use Rattle.ground.specs.Bytes.{AreBytes}
use Rattle.sections.specs.Refusal.{unrefused}
use Rattle.records.specs.Rows.{energy_row}
use Rattle.records.specs.declared.rows.Entry.{Entry}
use Rattle.records.specs.declared.rows.Contract.{Contract}
use Rattle.locking.specs.Locking.{source_of, settled_by, pick}
use Rattle.locking.specs.declared.Source.{Source}
use Rattle.locking.specs.declared.Source.TheVariants.{Current, Locked}
use Rattle.book.specs.Header.{header_of}
use Rattle.book.specs.Book.{book_of}
use Rattle.book.specs.Table.{locked_for, verdict}
use Rattle.book.specs.Inner.Facts.{Fields}
use Rattle.book.specs.Inner.Accepted.{own_total}
use Rattle.book.proofs.Promise.{accepted}
use Rattle.accounts.specs.Rows.{rows_of, joined}
use Rattle.accounts.specs.Account.{public_of, rows_of_account, locked_of, own_energy}
use Rattle.accounts.proofs.Joined.{joined_same}
use Rattle.accounts.proofs.Lists.{joined_rows, joined_keep}
use Rattle.accounts.proofs.Own.{own_in_lem}
use Rattle.statement.specs.declared.Line.{Line}
use Rattle.settlement.specs.Settle.{entry_in, of_constraint, constraint_lines, contract_lines, lines_by, lines_of, lines_for}
use Rattle.settlement.proofs.Link.{entry_in_lem}
use Rattle.guide.specs.Signed.{energy_at, te, SignedContract, signed_book}
use Rattle.guide.specs.Guide as guide
use Rattle.guide.specs.Guide.{guide_lines}
use Rattle.guide.proofs.Numbers.{sum_pos, sum_minus}
use Rattle.guide.proofs.Sized.{SizedEnergies, SizedContract, sized_entry, sized_constraint, sized_unit, sized_energy, sized_contract}
use Rattle.guide.proofs.Lines.{chosen, own_unit_lem, contingency_line_lem, rest_lines_lem, region_lines_lem}

-- ---- energies of one book: all accounts', and the account's own, by region

abbrev all : List ℕ → ℕ → Entry
all b g = entry_in (rows_of (book_of b).entry 5) g

abbrev own : List ℕ → ℕ → ℕ → Entry
own b account g = own_energy (rows_of_account (book_of b) account).energies g

module _ (b : List ℕ) (a : AreBytes b) (f : Fields (book_of b)) (account : ℕ) where
  all_sized : (g : ℕ) → g < 5 → SizedEnergies (all b g) ((signed_book b).entry g)
  all_sized g l = rw (entry_in_lem (book_of b).entry g l) (sized_entry b a f g l)

  own_sized : (g : ℕ) → SizedEnergies (own b account g) (guide.own_in (signed_book b) account g)
  unfolding own_total own_energy guide.own_in guide.own_sum energy_row energy_at
  own_sized g =
      let B = book_of b in
      let S = signed_book b in
      let mine : ℕ → Bool = λ i. eqb (B.energy i).account account && eqb (B.energy i).region g in
      let n = (header_of b).energies in
      record {
        ace = sum_minus (λ i. (S.energy i).ace) (λ i. (B.energy i).ace) mine n (λ i l. (sized_energy b a f i l).ace) ∙ ap (λ (k : ℕ). neg_ℤ (pos k)) (own_in_lem B account g (λ r. r.ace));
        asoe = sum_pos (λ i. (S.energy i).asoe) (λ i. (B.energy i).asoe) mine n (λ i l. (sized_energy b a f i l).asoe) ∙ ap pos (own_in_lem B account g (λ r. r.asoe));
        residual = sum_pos (λ i. te (S.energy i)) (λ i. (B.energy i).race + (B.energy i).rasoe) mine n (λ i l. (sized_energy b a f i l).residual) ∙ ap pos (own_in_lem B account g (λ r. r.race + r.rasoe));
      }

  -- ---- a constraint, and a contract that is settled by this book

  constraint_same : (j : ℕ) → j < (header_of b).constraints → constraint_lines (all b) (own b account) (rows_of_account (book_of b) account).units ((book_of b).constraint j) ≡ guide.constraint_lines (signed_book b) account ((signed_book b).constraint j)
  unfolding constraint_lines guide.constraint_lines rows_of_account
  constraint_same j l =
      let B = book_of b in
      let r = B.constraint j in
      let z = (signed_book b).constraint j in
      let s = sized_constraint b a f j l in
      let h = f.constraints j l in
      chosen 0 s.mode
      (λ m. ap (λ (x : Line). x ∷ []) (contingency_line_lem r z s h (all b) (own b account) (signed_book b).entry (guide.own_in (signed_book b) account) all_sized (λ g _. own_sized g) m))
      (λ live.
      ap₂ ◌++◌
      (sym (joined_keep B.unit (of_constraint r) (λ q. eqb q.account account) (header_of b).units)
      ∙ joined_same _ _ (header_of b).units (λ u m. own_unit_lem r z s h (B.unit u) ((signed_book b).unit u) (sized_unit b a f u m) account live))
      (rest_lines_lem r z s h (all b) (own b account) (signed_book b).entry (guide.own_in (signed_book b) account) all_sized (λ g _. own_sized g) live))

  paid_same : (k : Contract) (z : SignedContract) → SizedContract k z → contract_lines (all b) (own b account) k ≡ joined (guide.region_lines (signed_book b).entry (guide.own_in (signed_book b) account) z) 5
  unfolding contract_lines
  paid_same k z s =
      joined_same _ _ 5
      (λ g m. region_lines_lem k z s g m (all b) (own b account) (signed_book b).entry (guide.own_in (signed_book b) account) (all_sized g m) (own_sized g))

-- ---- all lines; l are the bytes of the book that test payments are settled by

module _ (b l : List ℕ) (a : AreBytes b) (c : AreBytes l) (f : Fields (book_of b)) (t : Fields (book_of l)) (account : ℕ) where
  -- a contract by the one book or by the other
  paid_by : (s : Source) (k : Contract) (z : SignedContract) → SizedContract k z → contract_lines (pick s (all b) (all l)) (pick s (own b account) (own l account)) k ≡ joined (guide.region_lines (pick s (signed_book b).entry (signed_book l).entry) (pick s (guide.own_in (signed_book b) account) (guide.own_in (signed_book l) account)) z) 5
  paid_by Current = paid_same b a f account
  paid_by Locked = paid_same l c t account

  contract_same : (k : ℕ) → k < (header_of b).contracts → lines_by (public_of (book_of b)) (rows_of_account (book_of b) account) (locked_of (book_of l) account) ((book_of b).contract k) ≡ guide.contract_lines (signed_book b) (signed_book l) account ((signed_book b).contract k)
  unfolding lines_by public_of locked_of guide.contract_lines
  contract_same k m =
      let z = (signed_book b).contract k in
      let s = sized_contract b a f k m in
      paid_by (settled_by ((book_of b).contract k)) ((book_of b).contract k) z s
      ∙ ap (λ (kind : ℕ). joined (guide.region_lines (pick (source_of kind) (signed_book b).entry (signed_book l).entry) (pick (source_of kind) (guide.own_in (signed_book b) account) (guide.own_in (signed_book l) account)) z) 5) (sym s.kind)

  lines_same : lines_for (book_of b) (book_of l) account ≡ guide_lines b l account
  unfolding lines_of public_of guide_lines
  lines_same =
      ap₂ ◌++◌
      (sym (joined_rows (book_of b).constraint _ (header_of b).constraints) ∙ joined_same _ _ (header_of b).constraints (constraint_same b a f account))
      (sym (joined_rows (book_of b).contract _ (header_of b).contracts) ∙ joined_same _ _ (header_of b).contracts contract_same)

-- for every accepted book and every account, the lines that the statement call writes are the guide's
pub every_line_is_the_guides : (b l : List ℕ) → AreBytes b → AreBytes (locked_for b l) → verdict b l ≡ unrefused → (account : ℕ) → lines_for (book_of b) (book_of (locked_for b l)) account ≡ guide_lines b (locked_for b l) account
every_line_is_the_guides b l a c v account =
    let p = (accepted b l v).promise in
    lines_same b (locked_for b l) a c p.sound.fields p.locked.fields account
