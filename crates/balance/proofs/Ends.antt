-- Each way in which the balance call ends. Assumes nothing.
use Prim.Native.Nat.{ℕ, ◌<◌}
use mathlib.Core.Path.{◌≡◌, refl, sym, ap, ◌∙◌}
use mathlib.Core.Bool.{Bool, true, false}
use mathlib.Core.Logic.{⊎_elim}
use borrow.Author.Tests.{eq-eqb, ne_eqb}
use Rattle.sections.proofs.Cases.{is_zero}
use mathlib.Core.List.{List}
use Rattle.std.specs.Prelude.{Option, None, Some, Result, Ok, Err}
use Rattle.sections.specs.Refusal.{Verdict, refused}
use Rattle.sections.specs.declared.Refusal.{Refusal}
use Rattle.records.specs.declared.rows.Constraint.{Constraint}
use Rattle.records.specs.declared.rows.Contract.{Contract}
use Rattle.book.specs.Book.{Book}
use Rattle.book.specs.Laid.{book_at}
use Rattle.book.specs.Table.{entries_by, verdict}
use Rattle.locking.specs.Locking.{settled_by, pick}
use Rattle.book.specs.Inner.Accepted.{Promise}
use Rattle.verdict.specs.declared.BothBooks.{BothBooks}
use Rattle.verdict.specs.Accepted.{BothOf}
use Rattle.totals.specs.Inner.Energies.{Energies}
use Rattle.accounts.specs.Account.{public_of}
use Rattle.accounts.specs.Inner.Energies.{energies_of}
use Rattle.balance.specs.Pools.{constraint_pool, contract_pool, pools_in}
use Rattle.balance.specs.Balance.{balance_in, answer_to, balances_in, balance_if, balance_of}
use Rattle.balance.specs.Inner.Places.{PlaceIs}
use Rattle.balance.specs.Inner.Rests.{Counted}
use Rattle.recovery.specs.Inner.Rests.{PaidBy}
use Rattle.balance.specs.Inner.Shapes.{belongs, contingency_shape, regulation_shape, constraint_shape, contract_shape}
use Rattle.balance.specs.declared.Balance.{Balance}
use Rattle.recovery.specs.declared.kinds.Kind.{Kind}
use Rattle.recovery.specs.declared.kinds.Kind.TheVariants.{Contingency, Fpp, Used, Unused, Payment}
use Rattle.balance.specs.declared.places.Place.{Place}
use Rattle.balance.specs.declared.places.Place.TheVariants as place
use Rattle.balance.proofs.Shareables.{paid_by}
use Rattle.balance.proofs.Balances.{contingency_balance, regulation_balance, contract_balance}

-- ---- the verdict

module _ (b l : List ℕ) (number : ℕ) {v : Verdict} (q : v ≡ verdict b l) where
  pub end_refused : {e : Refusal} {r : Result Balance Refusal} → v ≡ Err e → r ≡ Err e → r ≡ balance_of b l number
  unfolding balance_of balance_if
  end_refused d f = rw (sym q ∙ d) f

-- x has the two books that were accepted
pub end_balanced : (b l : List ℕ) (number : ℕ) {x : BothBooks} → BothOf b l x → {r : Result Balance Refusal} → r ≡ balances_in (book_at x.book) (book_at x.second) number → r ≡ balance_of b l number
unfolding balance_of balance_if
end_balanced b l number t w = rw t.unrefused (rw (t.header, t.book, t.second_header, t.second) at w)

-- ---- the place

module _ (B L : Book) (number : ℕ) {x : Option Place} (q : PlaceIs B.constraint B.header.constraints B.header.contracts number x) where
  module _ {y : Place} (o : x ≡ Some y) {j : ℕ} {kind : Kind} (e : y ≡ place.Constraint j kind) where
    pub constraint_in : (j < B.header.constraints) × (belongs (B.constraint j) kind ≡ true)
    unfolding PlaceIs
    constraint_in = let p = rw (o, e) at q in (p.0, p.1.0)

    pub end_constraint : {z : Balance} → z ≡ balance_in B L (constraint_pool (B.constraint j) kind) → Ok z ≡ balances_in B L number
    unfolding PlaceIs balances_in answer_to pools_in public_of
    end_constraint r = let p = rw (o, e) at q in rw (p.1.1 B.contract, r)

  module _ {y : Place} (o : x ≡ Some y) {i : ℕ} (e : y ≡ place.Contract i) where
    pub contract_in : i < B.header.contracts
    unfolding PlaceIs
    contract_in = let p = rw (o, e) at q in p.0

    pub end_contract : {z : Balance} → z ≡ balance_in B L (contract_pool (B.contract i)) → Ok z ≡ balances_in B L number
    unfolding PlaceIs balances_in answer_to pools_in public_of
    end_contract r = let p = rw (o, e) at q in rw (p.1 B.contract, r)

  pub end_15 : x ≡ None → refused 15 0 ≡ balances_in B L number
  unfolding PlaceIs balances_in answer_to pools_in public_of
  end_15 e = let p = rw e at q in rw (p B.contract)

-- ---- one record's pool

-- a constraint of mode 0 has its contingency pool alone
only_contingency : (r : Constraint) (kind : Kind) → r.mode ≡ 0 → belongs r kind ≡ true → kind ≡ Contingency
unfolding belongs
only_contingency r Contingency e o = refl
only_contingency r Fpp e o = let x : ◌≡◌ {A = Bool} false true = rw e at o in cc
only_contingency r Used e o = let x : ◌≡◌ {A = Bool} false true = rw e at o in cc
only_contingency r Unused e o = let x : ◌≡◌ {A = Bool} false true = rw e at o in cc
only_contingency r Payment e o = let x : ◌≡◌ {A = Bool} false true = o in cc

module _ {B L : Book} (p : Promise B L) {c : ℕ} (n : Counted B L c) where
  pub end_priced : (j : ℕ) → j < B.header.constraints → (kind : Kind) → belongs (B.constraint j) kind ≡ true → {x : Balance} → x ≡ constraint_shape B c (B.constraint j) kind → x ≡ balance_in B L (constraint_pool (B.constraint j) kind)
  unfolding constraint_shape
  end_priced j l kind o s =
      ⊎_elim
      (λ (m : (B.constraint j).mode ≡ 0). (rw (eq-eqb (B.constraint j).mode 0 m, n.all) at s) ∙ sym (contingency_balance p j l m) ∙ ap (λ (k : Kind). balance_in B L (constraint_pool (B.constraint j) k)) (sym (only_contingency (B.constraint j) kind m o)))
      (λ (d : (B.constraint j).mode ≡ 0 → ⊥). (rw (ne_eqb (B.constraint j).mode 0 d, n.all) at s) ∙ sym (regulation_balance p j kind l d o))
      (is_zero (B.constraint j).mode)

  pub end_paid : (i : ℕ) → i < B.header.contracts → {k : Contract} → k ≡ B.contract i → {x : Balance} → x ≡ contract_shape (energies_of (pick (settled_by k) B L)) c k → x ≡ balance_in B L (contract_pool (B.contract i))
  end_paid i l e s = rw (n.all, e) at s ∙ sym (contract_balance p i l)

pub paid_in : {B L : Book} → Promise B L → (i : ℕ) → i < B.header.contracts → {k : Contract} → k ≡ B.contract i → PaidBy (entries_by B L k) k
paid_in p i l e = rw e (paid_by p i l)

-- a constraint's balance by its mode
module _ (B : Book) (c : ℕ) (kind : Kind) {r : Constraint} (j : ℕ) (e : r ≡ B.constraint j) where
  pub shape_0 : {E : Energies} {x : Balance} → r.mode ≡ 0 → E ≡ energies_of B → x ≡ contingency_shape E c r → x ≡ constraint_shape B c (B.constraint j) kind
  unfolding constraint_shape
  shape_0 m q s = rw (q, e) at s ∙ rw (eq-eqb (B.constraint j).mode 0 (rw e at m))

  pub shape_live : {x : Balance} → (r.mode ≡ 0 → ⊥) → x ≡ regulation_shape B c r kind → x ≡ constraint_shape B c (B.constraint j) kind
  unfolding constraint_shape
  shape_live d s = rw e at s ∙ rw (ne_eqb (B.constraint j).mode 0 (rw e at d))
