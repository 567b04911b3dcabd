-- Demand 3: no neighbour's figure. A statement is made from the public part of a book, the account's own rows and, where the locked book is read, its
-- region totals and the account's own rows there: so books that agree in these give the same outcome, and the call's promise speaks of nothing else.
-- Assumes nothing.
use Rattle.sections.specs.declared.Refusal.{Refusal}
use Rattle.std.specs.Prelude.{Result, Ok}
use Prim.Native.Nat.{ℕ}
use mathlib.Core.Path.{◌≡◌, refl, sym, ap, ◌∙◌}
use mathlib.Core.Bool.{Bool, true, false, cond, not}
use mathlib.Core.List.{List, [], ◌∷◌, map}
use Rattle.ground.specs.Inner.Each.{Each}
use Rattle.sections.proofs.Cases.{zero_one}
use Rattle.records.specs.declared.rows.Constraint.{Constraint}
use Rattle.locking.specs.Locking.{is_test, reads_locked}
use Rattle.book.specs.Header.{header_of}
use Rattle.book.specs.Book.{book_of}
use Rattle.book.specs.Table.{locked_for}
use Rattle.accounts.specs.Rows.{keep, none}
use Rattle.accounts.specs.Account.{Public, public_of, rows_of_account, locked_of}
use Rattle.accounts.proofs.Lists.{some_rows}
use Rattle.settlement.specs.Settle.{outcome}
use Rattle.nmas_file.specs.File.{file_outcome}
use Rattle.answers.specs.declared.WrittenAnswer.{WrittenAnswer}
use Rattle.demands.specs.Demand1.{LengthCall, FileCall}
use Rattle.demands.specs.Demand3.{LockedAgree, Agree, Same, NoNeighboursFigure, costless, costless_public, AgreeButForCosts, costs_in, Way, as_payment, as_base_cost, made_from, CostsArePublic}

-- ---- the locked books

module _ (b t c u : List ℕ) (account : ℕ) (public : public_of (book_of b) ≡ public_of (book_of c)) (own : rows_of_account (book_of b) account ≡ rows_of_account (book_of c) account) where
  abbrev reads : List ℕ → Bool
  reads x = reads_locked (book_of x).contract (header_of x).contracts

  -- whether one is read is seen from the contracts
  reads_by : (x : List ℕ) → reads x ≡ not (none (keep is_test (public_of (book_of x)).contracts))
  unfolding reads_locked public_of
  reads_by x = some_rows (book_of x).contract is_test (header_of x).contracts

  both_read : reads b ≡ reads c
  both_read = reads_by b ∙ ap (λ (p : Public). not (none (keep is_test p.contracts))) public ∙ sym (reads_by c)

  -- a book's own, put as those of a locked one
  alone : locked_of (book_of b) account ≡ locked_of (book_of c) account
  unfolding locked_of public_of
  alone = λ j. record { entries = (public j).entries; rows = own j }

  -- so where it is, the parts that must agree are those of the locked books, and where it is not, they are those of the books
  same_locked : LockedAgree b t u account → locked_of (book_of (locked_for b t)) account ≡ locked_of (book_of (locked_for c u)) account
  unfolding locked_for
  same_locked h = rw (← both_read) (by (reads b) refl)
    where
      by : (x : Bool) → reads b ≡ x → locked_of (book_of (cond x t b)) account ≡ locked_of (book_of (cond x u c)) account
      by true e = h.read e
      by false e = alone

-- the outcome of one account is the same in both books
same_outcome : (b t c u : List ℕ) (account : ℕ) → Agree b t c u account → outcome b t account ≡ outcome c u account
unfolding outcome
same_outcome b t c u account h = rw (h.first, h.second, h.public, h.own, same_locked b t c u account h.public h.own h.locked)

same_length : (b t c u : List ℕ) (account : ℕ) (r s : WrittenAnswer) → Agree b t c u account → LengthCall b t account r → LengthCall c u account s → r ≡ s
same_length b t c u account r s h p q = p ∙ rw (same_outcome b t c u account h) (sym q)

-- and so is that of the file, whose rows rest on the same parts
same_file : (b t c u : List ℕ) (account payment_type : ℕ) → Agree b t c u account → file_outcome b t account payment_type ≡ file_outcome c u account payment_type
unfolding file_outcome
same_file b t c u account payment_type h =
    rw (same_outcome b t c u account h, h.public, h.own, same_locked b t c u account h.public h.own h.locked)

same_written : (b t c u : List ℕ) (account payment_type : ℕ) (l : List ℕ) (r s : WrittenAnswer) (x y : List ℕ) → Agree b t c u account → FileCall b t account payment_type l r x → FileCall c u account payment_type l s y → Same r s x y
same_written b t c u account payment_type l r s x y h p q =
    let e = same_file b t c u account payment_type h in
    record { answer = p.answer ∙ rw e (sym q.answer); bytes = p.left ∙ rw e (sym q.left) }

pub no_neighbours_figure : NoNeighboursFigure
no_neighbours_figure =
    record {
      same = λ b t c u account l r s x y h p q.
          let e = same_outcome b t c u account h in
          record { answer = p.answer ∙ rw e (sym q.answer); bytes = p.left ∙ rw e (sym q.left) };
      length = λ b t c u account r s h p q. same_length b t c u account r s h p q;
      file = λ b t c u account payment_type l r s x y h p q. same_written b t c u account payment_type l r s x y h p q;
    }

-- ---- costs

-- a constraint is what it is but for its cost, and its cost
same_constraint : (a b : Constraint) → costless a ≡ costless b → a.cost ≡ b.cost → a ≡ b
unfolding costless
same_constraint a b e q =
    λ j. record { id = (e j).id; service = (e j).service; mask = (e j).mask; mode = (e j).mode; spare = (e j).spare; cost = q j; price = (e j).price; rcr = (e j).rcr; usage = (e j).usage; prcf = (e j).prcf; nrcf = (e j).nrcf; drcf = (e j).drcf; tail = (e j).tail }

-- the heads and the rests of two equal lists
module _ {A : Type 0} where
  same_head : (x y : A) (xs ys : List A) → (x ∷ xs) ≡ (y ∷ ys) → x ≡ y
  same_head x y xs ys e = cc

  same_rest : (x y : A) (xs ys : List A) → (x ∷ xs) ≡ (y ∷ ys) → xs ≡ ys
  same_rest x y xs ys e = cc

  none_some : (x : A) (xs : List A) → [] ≡ (x ∷ xs) → ⊥
  none_some x xs e = zero_one cc

-- so are constraints in order
same_constraints : (xs ys : List Constraint) → map costless xs ≡ map costless ys → map (λ (r : Constraint). r.cost) xs ≡ map (λ (r : Constraint). r.cost) ys → xs ≡ ys
same_constraints [] [] e q = refl
same_constraints [] (y ∷ ys) e q = absurd (none_some _ _ e)
same_constraints (x ∷ xs) [] e q = absurd (none_some _ _ (sym e))
same_constraints (x ∷ xs) (y ∷ ys) e q =
    let here = same_constraint x y (same_head _ _ _ _ e) (same_head _ _ _ _ q) in
    let rest = same_constraints xs ys (same_rest _ _ _ _ e) (same_rest _ _ _ _ q) in
    λ j. here j ∷ rest j

-- costs that are made from the same rows are equal, where all else of the constraints is
made_alike : (rows : List ℕ) (w : Way) (a b : Constraint) → costless a ≡ costless b → made_from rows w a ≡ made_from rows w b
unfolding made_from costless
made_alike rows as_payment a b e = ap (λ (r : Constraint). made_from rows as_payment r) e
made_alike rows as_base_cost a b e = ap (λ (r : Constraint). made_from rows as_base_cost r) e

same_id : (a b : Constraint) → costless a ≡ costless b → a.id ≡ b.id
unfolding costless
same_id a b e = ap (λ (r : Constraint). r.id) e

same_amount : (m n : ℕ) → ◌≡◌ {A = Result ℕ Refusal} (Ok m) (Ok n) → m ≡ n
same_amount m n e = cc

same_costs : (rows : List ℕ) (way : ℕ → Way) (xs ys : List Constraint) → map costless xs ≡ map costless ys → Each (λ (r : Constraint). made_from rows (way r.id) r ≡ Ok r.cost) xs → Each (λ (r : Constraint). made_from rows (way r.id) r ≡ Ok r.cost) ys → map (λ (r : Constraint). r.cost) xs ≡ map (λ (r : Constraint). r.cost) ys
same_costs rows way [] [] e p q = refl
same_costs rows way [] (y ∷ ys) e p q = absurd (none_some _ _ e)
same_costs rows way (x ∷ xs) [] e p q = absurd (none_some _ _ (sym e))
same_costs rows way (x ∷ xs) (y ∷ ys) e p q =
    let rest = same_costs rows way xs ys (same_rest _ _ _ _ e) p.1 q.1 in
    λ j. here (same_head _ _ _ _ e) j ∷ rest j
  where
    here : costless x ≡ costless y → x.cost ≡ y.cost
    here h =
        same_amount x.cost y.cost (sym p.0 ∙ ap (λ (n : ℕ). made_from rows (way n) x) (same_id x y h) ∙ made_alike rows (way y.id) x y h ∙ q.0)

public_agrees : (p q : Public) → costless_public p ≡ costless_public q → map (λ (r : Constraint). r.cost) p.constraints ≡ map (λ (r : Constraint). r.cost) q.constraints → p ≡ q
public_agrees p q e d =
    let constraints = same_constraints p.constraints q.constraints (ap (λ (r : Public). r.constraints) e) d in
    λ j. record { date = (e j).date; interval = (e j).interval; run = (e j).run; entries = (e j).entries; constraints = constraints j; contracts = (e j).contracts }

agrees : (b t c u : List ℕ) (account : ℕ) → AgreeButForCosts b t c u account → costs_in b ≡ costs_in c → Agree b t c u account
agrees b t c u account h e =
    record { first = h.first; second = h.second; public = public_agrees (public_of (book_of b)) (public_of (book_of c)) h.public e; own = h.own_rows; locked = h.locked_parts }

pub costs_are_public : CostsArePublic
costs_are_public =
    record {
      field = λ b t c u account l r s x y h e. no_neighbours_figure.same b t c u account l r s x y (agrees b t c u account h e);
      made = λ rows way b t c u account l r s x y h p q.
          let e = same_costs rows way (public_of (book_of b)).constraints (public_of (book_of c)).constraints (ap (λ (v : Public). v.constraints) h.public) p q in
          no_neighbours_figure.same b t c u account l r s x y (agrees b t c u account h e);
    }
