-- An account's lines in each kind of pool: how many they are, and what they credit and charge. Only the record that a pool is of has lines
-- in it, for ids rise and the lines of constraints and contracts differ in their parts. Assumes nothing.
use Prim.Native.Nat.{ℕ, ◌+◌, ◌*◌, ◌≤◌, ◌<◌}
use mathlib.Core.Path.{◌≡◌, refl, sym, ap, ap₂, ◌∙◌}
use mathlib.Core.Bool.{Bool, true, false, cond, ◌&&◌}
use mathlib.Core.List.{[], ◌∷◌}
use native.Mathlib.Omega.{arith}
use native.Mathlib.Nat.{zero-mul}
use borrow.Author.Tests.{eqb-true, eq-eqb, ne_eqb}
use lib.Dec.{eqb}
use Rattle.sections.proofs.Cases.{zero_one}
use Rattle.numbers.specs.Round.{round_n}
use Rattle.numbers.specs.Sign.{less}
use Rattle.numbers.proofs.Rounding.{round_zero}
use Rattle.sections.specs.Total.{total, keyed}
use Rattle.market.specs.Kinds.{raises}
use Rattle.rules.specs.Rules.{factor_of}
use Rattle.records.specs.declared.rows.Entry.{Entry}
use Rattle.records.specs.declared.rows.Constraint.{Constraint}
use Rattle.records.specs.declared.rows.UnitRow.{UnitRow}
use Rattle.records.specs.declared.rows.Contract.{Contract}
use Rattle.factors.specs.Naming.{id_of, key_of}
use Rattle.totals.specs.Divisors.{over_regions}
use Rattle.totals.specs.Inner.Totals.{entry_of}
use Rattle.totals.specs.Inner.Energies.{Energies}
use Rattle.locking.specs.Locking.{settled_by, pick}
use Rattle.locking.specs.declared.Source.{Source}
use Rattle.locking.specs.declared.Source.TheVariants.{Current, Locked}
use Rattle.book.specs.Book.{Book}
use Rattle.book.specs.Inner.Accepted.{Sound, Promise}
use Rattle.amounts.specs.Pools.{pools_of, residual_pools, halves_of}
use Rattle.amounts.specs.Shares.{by_factor, by_energy}
use Rattle.amounts.specs.declared.pools.Pools.{Pools}
use Rattle.amounts.specs.declared.pools.Residual.{Residual}
use Rattle.accounts.specs.Inner.Energies.{energies_of}
use Rattle.accounts.specs.declared.energies.OwnEnergies.{OwnEnergies}
use Rattle.sharing.specs.Inner.Shares.{share_in}
use Rattle.statement.specs.declared.Line.{Line}
use Rattle.lines.specs.Lines.{contingency_line, unit_lines, rest_lines, region_lines}
use Rattle.settlement.specs.Settle.{lines_for}
use Rattle.lines.specs.Inner.Walks.{own_lines, unit_lines_at, con_lines, con_lines_at, contract_lines_at, totals_from, own_from, book_lines}
use Rattle.settlement.proofs.Link.{lines_link}
use Rattle.walk.proofs.Order.{rises_once}
use Rattle.balance.specs.Pools.{Pool, constraint_pool, contract_pool, has_part, in_pool}
use Rattle.balance.specs.Inner.Shapes.{belongs}
use Rattle.recovery.specs.ByKind.{above_by, below_by, pool_by, credit_by, charge_by, factor_above, factor_below}
use Rattle.recovery.specs.Inner.Shapes.{part_of, consumed_part, sent_part}
use Rattle.recovery.specs.declared.kinds.Kind.{Kind}
use Rattle.recovery.specs.declared.kinds.Kind.TheVariants.{Contingency, Fpp, Used, Unused, Payment}
use Rattle.balance.proofs.Own.{own_of, own_entry, own_constraint, own_region}
use Rattle.balance.proofs.Kept.{Kept, kept_none, kept_in, kept_out, kept_append, kept_before, kept_behind, kept_either, kept_unless, kept_both, kept_joined, kept_nothing, kept_only}

-- ---- the test

module _ (p : Pool) (l : Line) where
  -- a line of another record
  other_id : (l.id ≡ p.id → ⊥) → in_pool p l ≡ false
  unfolding in_pool
  other_id d = rw (ne_eqb l.id p.id d)

  -- of the pool's own record its part decides
  own_id : l.id ≡ p.id → in_pool p l ≡ has_part p.kind l.part
  unfolding in_pool
  own_id e = rw (eq-eqb l.id p.id e)

  -- a line of another part
  other_part : has_part p.kind l.part ≡ false → in_pool p l ≡ false
  unfolding in_pool
  other_part e = rw e (by (eqb l.id p.id))
    where
      by : (t : Bool) → (t && false) ≡ false
      by true = refl
      by false = refl

-- ---- records that give nothing

module _ (t : Line → Bool) where
  no_constraint : (unit : ℕ → UnitRow) (m account : ℕ) (r : Constraint) (own whole : ℕ) → ((l : Line) → l.id ≡ r.id → l.part ≤ 8 → t l ≡ false) → Kept t (con_lines unit m account r own whole) 0 0 0
  unfolding con_lines unit_lines_at own_lines unit_lines rest_lines
  no_constraint unit m account r own whole h =
      kept_either (eqb r.mode 0)
      (out (contingency_line r own whole) refl (low (raises r.service)))
      (kept_append
      (kept_nothing _ m (λ u l. kept_either (eqb (key_of unit u) r.id) (kept_either (eqb (unit u).account account) (three _ _ _ refl refl refl (omega arith) (omega arith) (omega arith)) kept_none) kept_none))
      (three _ _ _ refl refl refl (omega arith) (omega arith) (omega arith)))
    where
      low : (b : Bool) → cond b 2 1 ≤ 8
      low true = omega arith
      low false = omega arith

      out : (l : Line) → l.id ≡ r.id → l.part ≤ 8 → Kept t (l ∷ []) 0 0 0
      out l e p = kept_out l (h l e p) kept_none

      three : (a b c : Line) → a.id ≡ r.id → b.id ≡ r.id → c.id ≡ r.id → a.part ≤ 8 → b.part ≤ 8 → c.part ≤ 8 → Kept t (cond (eqb r.mode 1) (a ∷ b ∷ c ∷ []) (c ∷ [])) 0 0 0
      three a b c d e f x y z = kept_either (eqb r.mode 1) (kept_out a (h a d x) (kept_out b (h b e y) (out c f z))) (out c f z)

  no_contract : (entry own : Source → ℕ → Entry) (contract : ℕ → Contract) (i : ℕ) → ((l : Line) → l.id ≡ (contract i).id → 9 ≤ l.part → t l ≡ false) → Kept t (contract_lines_at entry own contract i) 0 0 0
  unfolding contract_lines_at region_lines
  no_contract entry own contract i h =
      kept_nothing _ 5 (λ g l. kept_either (eqb (factor_of (contract i).factors g) 0) kept_none (kept_out _ (h _ refl (omega arith)) (kept_out _ (h _ refl (omega arith)) kept_none)))

-- no constraint's line has a contract's part, and the other way round
paid_part_lem : (part : ℕ) → part ≤ 8 → has_part Payment part ≡ false
paid_part_lem part l = rw (ne_eqb part 9 (λ (e : part ≡ 9). omega arith), ne_eqb part 10 (λ (e : part ≡ 10). omega arith))

priced_part : (kind : Kind) (part : ℕ) → (kind ≡ Payment → ⊥) → 9 ≤ part → has_part kind part ≡ false
priced_part kind part d l = by kind d
  where
    two : (a b : ℕ) → a ≤ 8 → b ≤ 8 → (eqb part a ≡ false) × (eqb part b ≡ false)
    two a b x y = (ne_eqb part a (λ (e : part ≡ a). omega arith), ne_eqb part b (λ (e : part ≡ b). omega arith))

    by : (kind : Kind) → (kind ≡ Payment → ⊥) → has_part kind part ≡ false
    by Contingency d = let h = two 1 2 (omega arith) (omega arith) in rw (h.0, h.1)
    by Fpp d = let h = two 3 6 (omega arith) (omega arith) in rw (h.0, h.1)
    by Used d = let h = two 4 7 (omega arith) (omega arith) in rw (h.0, h.1)
    by Unused d = let h = two 5 8 (omega arith) (omega arith) in rw (h.0, h.1)
    by Payment d = absurd (d refl)

-- ---- lines of one kind; own and whole are the account's energy and the total over the constraint's regions

module _ {t : Line → Bool} {a b c : Line} {x y : ℕ} where
  first_kept : t a ≡ true → t b ≡ false → t c ≡ false → a.amount ≡ less x y → Kept t (a ∷ b ∷ c ∷ []) 1 x y
  first_kept p q r e = kept_before (kept_in a p e) (kept_out b q (kept_out c r kept_none))

  second_kept : t a ≡ false → t b ≡ true → t c ≡ false → b.amount ≡ less x y → Kept t (a ∷ b ∷ c ∷ []) 1 x y
  second_kept p q r e = kept_out a p (kept_before (kept_in b q e) (kept_out c r kept_none))

  third_kept : t a ≡ false → t b ≡ false → t c ≡ true → c.amount ≡ less x y → Kept t (a ∷ b ∷ c ∷ []) 1 x y
  third_kept p q r e = kept_out a p (kept_out b q (kept_in c r e))

-- a charge alone
charge_less : (charge own whole : ℕ) → by_energy 0 charge own whole ≡ less 0 (round_n (charge * own) whole)
unfolding by_energy
charge_less charge own whole = ap (λ (x : ℕ). less x (round_n (charge * own) whole)) (ap (λ (x : ℕ). round_n x whole) (zero-mul own) ∙ round_zero whole)

not_paid : ◌≡◌ {A = Bool} false true → ⊥
not_paid e = zero_one cc

module _ (r : Constraint) where
  -- of a pool of the constraint the part decides
  its : (kind : Kind) (l : Line) → l.id ≡ r.id → in_pool (constraint_pool r kind) l ≡ has_part kind l.part
  unfolding constraint_pool
  its kind l e = own_id (constraint_pool r kind) l e

  contingency_kept : (own whole : ℕ) → Kept (in_pool (constraint_pool r Contingency)) (contingency_line r own whole ∷ []) 1 0 (round_n (r.cost * own) whole)
  contingency_kept own whole = kept_in _ (its Contingency _ refl ∙ part (raises r.service)) (charge_less r.cost own whole)
    where
      part : (t : Bool) → has_part Contingency (cond t 2 1) ≡ true
      part true = refl
      part false = refl

  -- of a unit row
  unit_kept : (kind : Kind) → (r.mode ≡ 0 → ⊥) → belongs r kind ≡ true → (p : Pools) (q : UnitRow) → Kept (in_pool (constraint_pool r kind)) (unit_lines r p q) 1 (round_n (pool_by kind p * above_by kind q) 1_000_000) (round_n (pool_by kind p * below_by kind q) 1_000_000)
  unfolding belongs unit_lines pool_by factor_above factor_below by_factor
  unit_kept Contingency live h p q = absurd (live (eqb-true r.mode 0 h))
  unit_kept Fpp live h p q = rw h (first_kept (its Fpp _ refl) (its Fpp _ refl) (its Fpp _ refl) refl)
  unit_kept Used live h p q = rw h (second_kept (its Used _ refl) (its Used _ refl) (its Used _ refl) refl)
  unit_kept Unused live h p q =
      kept_either (eqb r.mode 1) (third_kept (its Unused _ refl) (its Unused _ refl) (its Unused _ refl) refl) (kept_in _ (its Unused _ refl) refl)
  unit_kept Payment live h p q = absurd (not_paid h)

  -- of the residual
  rest_kept : (kind : Kind) → (r.mode ≡ 0 → ⊥) → belongs r kind ≡ true → (x : Residual) (own whole : ℕ) → Kept (in_pool (constraint_pool r kind)) (rest_lines r x own whole) 1 (round_n (credit_by kind x * own) whole) (round_n (charge_by kind x * own) whole)
  unfolding belongs rest_lines credit_by charge_by by_energy
  rest_kept Contingency live h x own whole = absurd (live (eqb-true r.mode 0 h))
  rest_kept Fpp live h x own whole = rw h (first_kept (its Fpp _ refl) (its Fpp _ refl) (its Fpp _ refl) refl)
  rest_kept Used live h x own whole = rw h (second_kept (its Used _ refl) (its Used _ refl) (its Used _ refl) refl)
  rest_kept Unused live h x own whole =
      kept_either (eqb r.mode 1) (third_kept (its Unused _ refl) (its Unused _ refl) (its Unused _ refl) refl) (kept_in _ (its Unused _ refl) refl)
  rest_kept Payment live h x own whole = absurd (not_paid h)

-- of a contract in one region
paid_kept : (k : Contract) (entry own : ℕ → Entry) (g : ℕ) → Kept (in_pool (contract_pool k)) (region_lines entry own k g) (cond (eqb (factor_of k.factors g) 0) 0 2) 0 (cond (eqb (factor_of k.factors g) 0) 0 (round_n ((halves_of k.payment (factor_of k.factors g)).consumed * (own g).ace) (entry g).ace + round_n ((halves_of k.payment (factor_of k.factors g)).sent * (own g).asoe) (entry g).asoe))
unfolding region_lines contract_pool
paid_kept k entry own g =
    kept_unless (eqb (factor_of k.factors g) 0)
    (kept_append (kept_in _ (own_id _ _ refl) (charge_less _ _ _)) (kept_in _ (own_id _ _ refl) (charge_less _ _ _)))

-- ---- a book

-- what one of an account's unit rows counts for, where it names constraint id
unfoldable pub own_units : Book → ℕ → ℕ → (UnitRow → ℕ) → ℕ
own_units B a id f = total (λ u. cond (eqb (B.unit u).account a) (keyed (key_of B.unit) id (λ u. f (B.unit u)) u) 0) B.header.units

-- an account's share of an amount over a constraint's regions, and of a contract's two halves in a region
abbrev pub constraint_share : Book → ℕ → Constraint → ℕ → ℕ
constraint_share B a r amount = share_in (part_of B.entry r amount) B.energy B.header.energies a

abbrev pub region_share : Energies → ℕ → Contract → ℕ → ℕ
region_share E a k g = share_in (consumed_part E.entry k g) E.row E.rows a + share_in (sent_part E.entry k g) E.row E.rows a

-- the account's energies in a book, and its two shares of a contract in a region
shares_in_lem : {B : Book} → Sound B → (a : ℕ) (k : Contract) (g : ℕ) → g < 5 → round_n ((halves_of k.payment (factor_of k.factors g)).consumed * (entry_of (own_of B a) g).ace) (B.entry g).ace + round_n ((halves_of k.payment (factor_of k.factors g)).sent * (entry_of (own_of B a) g).asoe) (B.entry g).asoe ≡ region_share (energies_of B) a k g
unfolding share_in consumed_part sent_part
shares_in_lem {B} p a k g l =
    ap₂ ◌+◌
    (ap (λ (x : ℕ). round_n ((halves_of k.payment (factor_of k.factors g)).consumed * x) (B.entry g).ace) (own_region p a (consumed_part B.entry k g) g l refl))
    (ap (λ (x : ℕ). round_n ((halves_of k.payment (factor_of k.factors g)).sent * x) (B.entry g).asoe) (own_region p a (sent_part B.entry k g) g l refl))

-- its energies in two books
abbrev owns_of : Book → Book → ℕ → OwnEnergies
owns_of B L a = record { current = own_of B a; locked = own_of L a }

module _ {B L : Book} (p : Promise B L) (a : ℕ) where
  walk_kept : {t : Line → Bool} {n c d : ℕ} → Kept t (book_lines B L a (owns_of B L a)) n c d → Kept t (lines_for B L a) n c d
  walk_kept h = rw (lines_link B L a (owns_of B L a) (own_entry B a) (own_entry L a)) h

  -- of a constraint's pool the constraint alone has lines
  constraint_kept : (j : ℕ) (kind : Kind) {n c d : ℕ} → j < B.header.constraints → (kind ≡ Payment → ⊥) → Kept (in_pool (constraint_pool (B.constraint j) kind)) (con_lines_at B.entry B.constraint B.unit B.header.units a (own_of B a) j) n c d → Kept (in_pool (constraint_pool (B.constraint j) kind)) (lines_for B L a) n c d
  unfolding book_lines con_lines_at constraint_pool
  constraint_kept j kind l k h =
      walk_kept
      (kept_before
      (kept_only _ j B.header.constraints l
      (λ u m q. no_constraint _ B.unit B.header.units a (B.constraint u) _ _
      (λ x e _. other_id _ x (λ z. q (rises_once (id_of B.constraint) B.header.constraints p.sound.ordered.constraints u j m l (sym e ∙ z)))))
      h)
      (kept_nothing _ B.header.contracts
      (λ i m. no_contract _ (totals_from B.entry L.entry) (own_from (owns_of B L a)) B.contract i (λ x _ g. other_part _ x (priced_part kind x.part k g)))))

  -- and of a contract's pool the contract
  contract_kept : (i : ℕ) {n c d : ℕ} → i < B.header.contracts → Kept (in_pool (contract_pool (B.contract i))) (contract_lines_at (totals_from B.entry L.entry) (own_from (owns_of B L a)) B.contract i) n c d → Kept (in_pool (contract_pool (B.contract i))) (lines_for B L a) n c d
  unfolding book_lines con_lines_at contract_pool
  contract_kept i l h =
      walk_kept
      (kept_behind
      (kept_nothing _ B.header.constraints
      (λ u m. no_constraint _ B.unit B.header.units a (B.constraint u) _ _ (λ x _ g. other_part _ x (paid_part_lem x.part g))))
      (kept_only _ i B.header.contracts l
      (λ u m q. no_contract _ (totals_from B.entry L.entry) (own_from (owns_of B L a)) B.contract u
      (λ x e _. other_id _ x (λ z. q (rises_once (λ k. (B.contract k).id) B.header.contracts p.sound.ordered.contracts u i m l (sym e ∙ z)))))
      h))

  -- ---- shares

  constraint_share_lem : (r : Constraint) (amount : ℕ) → round_n (amount * over_regions (entry_of (own_of B a)) r) (over_regions B.entry r) ≡ constraint_share B a r amount
  unfolding share_in part_of
  constraint_share_lem r amount = ap (λ (x : ℕ). round_n (amount * x) (over_regions B.entry r)) (own_constraint p.sound a r amount)

  region_shares : (s : Source) (k : Contract) (g : ℕ) → g < 5 → round_n ((halves_of k.payment (factor_of k.factors g)).consumed * (own_from (owns_of B L a) s g).ace) (totals_from B.entry L.entry s g).ace + round_n ((halves_of k.payment (factor_of k.factors g)).sent * (own_from (owns_of B L a) s g).asoe) (totals_from B.entry L.entry s g).asoe ≡ region_share (energies_of (pick s B L)) a k g
  region_shares Current k g l = shares_in_lem p.sound a k g l
  region_shares Locked k g l = shares_in_lem p.locked a k g l

  -- ---- the lines of each kind of pool

  pub contingency_lines : (j : ℕ) → j < B.header.constraints → (B.constraint j).mode ≡ 0 → Kept (in_pool (constraint_pool (B.constraint j) Contingency)) (lines_for B L a) 1 0 (constraint_share B a (B.constraint j) (B.constraint j).cost)
  unfolding con_lines_at con_lines
  contingency_lines j l e =
      constraint_kept j Contingency l (λ q. not_paid (cc))
      (rw (eq-eqb (B.constraint j).mode 0 e, ← constraint_share_lem (B.constraint j) (B.constraint j).cost) (contingency_kept (B.constraint j) _ _))

  -- a line of each of the account's unit rows that name the constraint, and one of the residual
  pub regulation_lines : (j : ℕ) (kind : Kind) → j < B.header.constraints → ((B.constraint j).mode ≡ 0 → ⊥) → belongs (B.constraint j) kind ≡ true → Kept (in_pool (constraint_pool (B.constraint j) kind)) (lines_for B L a) (own_units B a (B.constraint j).id (λ q. 1) + 1) (own_units B a (B.constraint j).id (λ q. round_n (pool_by kind (pools_of (B.constraint j)) * above_by kind q) 1_000_000) + constraint_share B a (B.constraint j) (credit_by kind (residual_pools (B.constraint j) (pools_of (B.constraint j))))) (own_units B a (B.constraint j).id (λ q. round_n (pool_by kind (pools_of (B.constraint j)) * below_by kind q) 1_000_000) + constraint_share B a (B.constraint j) (charge_by kind (residual_pools (B.constraint j) (pools_of (B.constraint j)))))
  unfolding belongs con_lines_at con_lines unit_lines_at own_lines own_units keyed
  regulation_lines j kind l live h =
      constraint_kept j kind l (λ q. not_paid (rw q at h))
      (rw (ne_eqb (B.constraint j).mode 0 live, ← constraint_share_lem (B.constraint j) (credit_by kind (residual_pools (B.constraint j) (pools_of (B.constraint j)))), ← constraint_share_lem (B.constraint j) (charge_by kind (residual_pools (B.constraint j) (pools_of (B.constraint j)))))
      (kept_append
      (kept_joined _ _ _ _ B.header.units (λ u m. kept_both (eqb (B.unit u).account a) (eqb (key_of B.unit u) (B.constraint j).id) (unit_kept (B.constraint j) kind live h (pools_of (B.constraint j)) (B.unit u))))
      (rest_kept (B.constraint j) kind live h _ _ _)))

  -- two lines in each region that benefits
  pub contract_lines_lem : (i : ℕ) → i < B.header.contracts → Kept (in_pool (contract_pool (B.contract i))) (lines_for B L a) (total (λ g. cond (eqb (factor_of (B.contract i).factors g) 0) 0 2) 5) 0 (total (λ g. cond (eqb (factor_of (B.contract i).factors g) 0) 0 (region_share (energies_of (pick (settled_by (B.contract i)) B L)) a (B.contract i) g)) 5)
  unfolding contract_lines_at total
  contract_lines_lem i l = contract_kept i l (kept_joined _ _ (λ g. 0) _ 5 (λ g m. region_kept g m))
    where
      region_kept : (g : ℕ) → g < 5 → Kept (in_pool (contract_pool (B.contract i))) (region_lines (totals_from B.entry L.entry (settled_by (B.contract i))) (own_from (owns_of B L a) (settled_by (B.contract i))) (B.contract i) g) (cond (eqb (factor_of (B.contract i).factors g) 0) 0 2) 0 (cond (eqb (factor_of (B.contract i).factors g) 0) 0 (region_share (energies_of (pick (settled_by (B.contract i)) B L)) a (B.contract i) g))
      region_kept g m = rw (← region_shares (settled_by (B.contract i)) (B.contract i) g m) (paid_kept (B.contract i) (totals_from B.entry L.entry (settled_by (B.contract i))) (own_from (owns_of B L a) (settled_by (B.contract i))) g)
