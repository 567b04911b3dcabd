-- Each way in which the cut-off call ends. Assumes nothing.
use Prim.Native.Nat.{ℕ, ◌<◌}
use mathlib.Core.Path.{◌≡◌, refl, sym, ap, ◌∙◌}
use mathlib.Core.List.{[], List, ◌∷◌}
use native.Mathlib.Omega.{arith}
use borrow.Author.Tests.{eq-eqb, ne_eqb}
use lib.IntN.{ℤ, +ℤ_idr}
use Rattle.std.specs.Prelude.{Option, None, Some, Result, Ok, Err}
use Rattle.sections.specs.Refusal.{Verdict, refused}
use Rattle.sections.specs.declared.Refusal.{Refusal}
use Rattle.records.specs.declared.rows.Constraint.{Constraint}
use Rattle.records.specs.declared.rows.Contract.{Contract}
use Rattle.totals.specs.Inner.Energies.{Energies}
use Rattle.locking.specs.Locking.{settled_by, pick}
use Rattle.locking.specs.declared.Source.{Source}
use Rattle.book.specs.Book.{Book}
use Rattle.book.specs.Laid.{book_at}
use Rattle.book.specs.Table.{verdict}
use Rattle.book.specs.Inner.Accepted.{Promise}
use Rattle.verdict.specs.declared.BothBooks.{BothBooks}
use Rattle.verdict.specs.Accepted.{BothOf}
use Rattle.accounts.specs.Account.{public_of}
use Rattle.accounts.specs.Inner.Energies.{energies_of}
use Rattle.accounts.proofs.Joined.{joined_same}
use Rattle.sharing.proofs.Everyone.{nothing_cut}
use Rattle.recovery.specs.Inner.Shapes.{part_of, shared_cut}
use Rattle.recovery.specs.declared.kinds.Kind.{Kind}
use Rattle.balance.specs.Pools.{constraint_pool, contract_pool, pools_in}
use Rattle.balance.specs.Balance.{accounts_of}
use Rattle.balance.specs.Inner.Places.{PlaceIs}
use Rattle.balance.specs.declared.places.Place.{Place}
use Rattle.balance.specs.declared.places.Place.TheVariants as place
use Rattle.cutoffs.specs.Cutoffs.{line_stage, unit_stage, share_stage, regulation_stages, constraint_stages, ace_stage, asoe_stage, region_stages, contract_stages, stages_by, stage_at, cut_for, cuts_in, cut_if, cut_of}
use Rattle.cutoffs.specs.Inner.Shapes.{line_shape, unit_shape, share_shape, regulation_shapes, constraint_shapes, ace_shape, asoe_shape, region_shapes, contract_shapes}
use Rattle.cutoffs.specs.declared.Cut.{Cut}
use Rattle.cutoffs.proofs.Numbering.{at_past}
use Rattle.cutoffs.proofs.Stages.{shares_cut_lem, units_cut, ace_cut, asoe_cut}

-- ---- the verdict

module _ (b l : List ℕ) (number index : ℕ) {v : Verdict} (q : v ≡ verdict b l) where
  -- the book is refused
  pub end_refused : {e : Refusal} {r : Result Cut Refusal} → v ≡ Err e → r ≡ Err e → r ≡ cut_of b l number index
  unfolding cut_of cut_if
  end_refused d f = rw (sym q ∙ d) f

-- it is accepted: x has the two books
pub end_cut : (b l : List ℕ) (number index : ℕ) {x : BothBooks} → BothOf b l x → {r : Result Cut Refusal} → r ≡ cuts_in (book_at x.book) (book_at x.second) number index → r ≡ cut_of b l number index
unfolding cut_of cut_if
end_cut b l number index t w = rw t.unrefused (rw (t.header, t.book, t.second_header, t.second) at w)

-- ---- the place

module _ (B L : Book) (number index : ℕ) {x : Option Place} (q : PlaceIs B.constraint B.header.constraints B.header.contracts number x) where
  -- the number is a constraint's pool
  pub end_constraint : {y : Place} → x ≡ Some y → {j : ℕ} {kind : Kind} → y ≡ place.Constraint j kind → {z : Result Cut Refusal} → z ≡ stage_at (constraint_stages B L (B.constraint j) kind) index → z ≡ cuts_in B L number index
  unfolding PlaceIs cuts_in cut_for pools_in public_of constraint_pool stages_by
  end_constraint o e r = let p = rw (o, e) at q in rw (p.1.1 B.contract) r

  -- it is a contract's
  pub end_contract : {y : Place} → x ≡ Some y → {i : ℕ} → y ≡ place.Contract i → {z : Result Cut Refusal} → z ≡ stage_at (contract_stages B L (B.contract i)) index → z ≡ cuts_in B L number index
  unfolding PlaceIs cuts_in cut_for pools_in public_of contract_pool stages_by
  end_contract o e r = let p = rw (o, e) at q in rw (p.1 B.contract) r

  -- it is past the end
  pub end_15 : x ≡ None → refused 15 0 ≡ cuts_in B L number index
  unfolding PlaceIs cuts_in cut_for pools_in public_of
  end_15 e = let p = rw e at q in rw (p B.contract)

-- ---- one record's stages are as one pass over the rows meets them

module _ {B L : Book} (p : Promise B L) where
  module _ (r : Constraint) where
    -- contingency's lines
    line_stage_lem : line_stage B L r ≡ line_shape (energies_of B) r
    unfolding line_stage line_shape part_of
    line_stage_lem = rw (shares_cut_lem p r r.cost 0, nothing_cut (part_of B.entry r 0) B.energy B.header.energies refl, +ℤ_idr (shared_cut (energies_of B) r r.cost))

    -- unit lines
    unit_stage_lem : (kind : Kind) → unit_stage B L r kind ≡ unit_shape B r kind
    unfolding unit_shape unit_stage
    unit_stage_lem kind = made (unit_stage B L r kind) (units_cut p r kind)
      where
        made : (c : Cut) {z : ℤ} → c.cut ≡ z → c ≡ record { stage = c.stage; region = c.region; divisor = c.divisor; cut = z }
        made c e = rw (← e)

    -- residual lines
    share_stage_lem : (kind : Kind) → share_stage B L r kind ≡ share_shape (energies_of B) r kind
    unfolding share_stage share_shape
    share_stage_lem kind = rw (shares_cut_lem p r _ _)

    -- all of a constraint
    pub constraint_stages_lem : (kind : Kind) → constraint_stages B L r kind ≡ constraint_shapes B r kind
    unfolding constraint_stages constraint_shapes regulation_stages regulation_shapes
    constraint_stages_lem kind = rw (line_stage_lem, unit_stage_lem kind, share_stage_lem kind)

  module _ (k : Contract) where
    -- a region of a contract
    region_stages_lem : (s : Source) (g : ℕ) → g < 5 → region_stages (pick s B L) (accounts_of B L) k g ≡ region_shapes (energies_of (pick s B L)) k g
    unfolding region_stages region_shapes ace_stage asoe_stage ace_shape asoe_shape
    region_stages_lem s g l = rw (ace_cut p s k g l, asoe_cut p s k g l)

    -- all of a contract
    contract_stages_lem : contract_stages B L k ≡ contract_shapes (energies_of (pick (settled_by k) B L)) k
    unfolding contract_stages contract_shapes
    contract_stages_lem = joined_same _ _ 5 (λ g l. region_stages_lem (settled_by k) g l)

  -- those of the contract that was read
  pub contract_found : {i : ℕ} (index : ℕ) {k : Contract} → k ≡ B.contract i → {x : Result Cut Refusal}
      → x ≡ stage_at (contract_shapes (energies_of (pick (settled_by k) B L)) k) index → x ≡ stage_at (contract_stages B L (B.contract i)) index
  contract_found {i} index e s = rw e at s ∙ ap (λ (l : List Cut). stage_at l index) (sym (contract_stages_lem (B.contract i)))

-- ---- a constraint's by its mode

module _ (B : Book) (kind : Kind) (index : ℕ) {r : Constraint} (j : ℕ) (e : r ≡ B.constraint j) where
  -- regulation
  pub shape_live : {x : Result Cut Refusal} → (r.mode ≡ 0 → ⊥) → x ≡ stage_at (regulation_shapes B r kind) index → x ≡ stage_at (constraint_shapes B (B.constraint j) kind) index
  unfolding constraint_shapes
  shape_live d s = rw e at s ∙ rw (ne_eqb (B.constraint j).mode 0 (rw e at d))

  -- contingency: the one stage
  pub shape_0 : {E : Energies} {x : Cut} → r.mode ≡ 0 → index ≡ 0 → E ≡ energies_of B → x ≡ line_shape E r → Ok x ≡ stage_at (constraint_shapes B (B.constraint j) kind) index
  unfolding constraint_shapes stage_at
  shape_0 m i q s = rw (s, q, e, eq-eqb (B.constraint j).mode 0 (rw e at m), i)

  -- and none behind it
  pub shape_past : r.mode ≡ 0 → (index ≡ 0 → ⊥) → refused 15 0 ≡ stage_at (constraint_shapes B (B.constraint j) kind) index
  unfolding constraint_shapes
  shape_past m d = rw (eq-eqb (B.constraint j).mode 0 (rw e at m)) (sym (at_past (line_shape (energies_of B) (B.constraint j) ∷ []) index (omega (arith, d))))
