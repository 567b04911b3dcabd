-- Every pool of an accepted book: amount plus sum is what its stages say, and its roundings are as many as its lines and one for each amount that is
-- rounded before them. Assumes nothing.
use Prim.Native.Nat.{ℕ, ◌+◌, ◌*◌, ◌≤◌, ◌<◌}
use mathlib.Core.Path.{◌≡◌, refl, sym, ap, ◌∙◌}
use mathlib.Core.Bool.{Bool, true, false, cond}
use mathlib.Core.List.{[], List, ◌∷◌, ◌++◌}
use native.Mathlib.Omega.{arith}
use borrow.Author.Tests.{eqb-true, eqb-false, eq-eqb, ne_eqb}
use lib.Dec.{eqb}
use lib.IntN.{ℤ, pos, neg_ℤ, nat_abs, ◌+ℤ◌, ◌*ℤ◌, +ℤ_assoc}
use lib.ListN.{length}
use Rattle.sections.proofs.Cases.{cond_same}
use Rattle.numbers.specs.Sign.{less}
use Rattle.ground.specs.Units.{million}
use Rattle.sections.specs.Total.{total, keyed}
use Rattle.sections.proofs.Total.{total_zero, total_five}
use Rattle.rules.specs.Rules.{factor_of}
use Rattle.locking.specs.Locking.{settled_by, pick}
use Rattle.factors.specs.Naming.{key_of}
use Rattle.factors.specs.Factors.{sum_over}
use Rattle.book.specs.Book.{Book}
use Rattle.book.specs.Inner.Accepted.{Promise}
use Rattle.amounts.specs.Pools.{pools_of, residual_pools}
use Rattle.accounts.specs.Account.{public_of}
use Rattle.accounts.specs.Inner.Energies.{energies_of}
use Rattle.recovery.specs.Recovers.{recovers, benefiting}
use Rattle.recovery.specs.ByKind.{rest_above, rest_below, above_by, below_by, pool_by, credit_by, charge_by, factor_above, factor_below}
use Rattle.recovery.specs.Inner.Shapes.{unit_credit, unit_charge, shared_sum, region_paid}
use Rattle.recovery.specs.declared.kinds.Kind.{Kind}
use Rattle.recovery.specs.declared.kinds.Kind.TheVariants.{Contingency, Fpp, Used, Unused, Payment}
use Rattle.balance.specs.Pools.{Pool, stages_of, constraint_pool, contract_pool, pools_in}
use Rattle.balance.specs.Balance.{accounts_of, line_count, line_sum, balance_in}
use Rattle.balance.specs.Inner.Shapes.{belongs, contingency_shape, regulation_shape, contract_shape}
use Rattle.balance.specs.declared.Balance.{Balance}
use Rattle.balance.proofs.Balances.{count_times, contingency_balance, regulation_balance, contract_balance}
use Rattle.cutoffs.specs.Cutoffs.{line_stage, pool_stage, unit_stage, residual_stage, share_stage, part_over, region_stages, regulation_stages, constraint_stages, contract_stages, stages_by, stages_in}
use Rattle.cutoffs.specs.declared.Cut.{Cut}
use Rattle.closing.specs.Explained.{left_by, said_by, Explained}
use Rattle.closing.proofs.Found.{Each, each_pool}
use Rattle.closing.proofs.Fractions.{Left, left_as, left_none, left_more, left_joined, left_is, left_small}
use Rattle.closing.proofs.Sides.{OneSided}
use Rattle.closing.proofs.Leaving.{pool_left, residual_left, line_left, unit_left, share_left, region_left}

-- amount plus sum is explained, and small; both sides doubled, so that a half is 1
pub record Accounted (B L : Book) (p : Pool) : Type 0 where
  pub explained : Explained B L p
  pub small : 2 * nat_abs (pos p.amount +ℤ line_sum B L p) ≤ line_count B L p + p.stages

-- by the balance, and what the stages leave
accounted : (B L : Book) (p : Pool) (c d : ℕ) {n a b : ℕ} {cs : List Cut} → balance_in B L p ≡ record { amount = pos p.amount; lines = n; sum = less c d }
    → stages_in B L p ≡ cs → Left (n + p.stages) a b (said_by cs) → a + d * million ≡ (p.amount + c) * million + b → Accounted B L p
unfolding balance_in
accounted B L p c d {n} e f k m =
    let lines : line_count B L p ≡ n = ap (λ (x : Balance). x.lines) e in
    let sum : pos p.amount +ℤ line_sum B L p ≡ less (p.amount + c) d = ap (λ (x : Balance). pos p.amount +ℤ x.sum) e ∙ sym (+ℤ_assoc (pos p.amount) (pos c) (neg_ℤ (pos d))) in
    let h = rw (← f) at k in
    record {
      explained = record { exact = ap (λ (z : ℤ). z *ℤ pos (said_by (stages_in B L p)).under) sum ∙ left_is (p.amount + c) d h m; above = h.above };
      small = rw (sum, lines) (left_small (p.amount + c) d h m);
    }

-- a pool that is rounded stands before the other stages, where the constraint is factored
left_behind : (t : Bool) (c : Cut) (cs : List Cut) {n a b : ℕ} → Left 0 0 0 (left_by c) → Left n a b (said_by cs) → Left n a b (said_by (cond t (c ∷ []) [] ++ cs))
left_behind true c cs {n} {a} {b} h k = left_as n a b (left_more c cs h k) (omega arith) (omega arith)
left_behind false c cs h k = k

module _ {B L : Book} (p : Promise B L) (o : OneSided B) where
  -- contingency: its lines
  contingency_pool : (j : ℕ) → j < B.header.constraints → (B.constraint j).mode ≡ 0 → Accounted B L (constraint_pool (B.constraint j) Contingency)
  unfolding constraint_pool recovers stages_of contingency_shape stages_by constraint_stages
  contingency_pool j l e =
      let r = B.constraint j in
      accounted B L (constraint_pool r Contingency) 0 (shared_sum (energies_of B) r r.cost) (contingency_balance p j l e)
      (rw (eq-eqb r.mode 0 e))
      (left_more (line_stage B L r) [] (line_left p j l) left_none)
      (omega arith)

  -- ---- regulation

  -- no factor
  no_factor_lem : (id : ℕ) → sum_over B.unit B.header.units id (λ q. 0) ≡ 0
  unfolding keyed
  no_factor_lem id = sym (total_zero _ B.header.units (λ u l. cond_same (eqb (key_of B.unit u) id) 0))

  module _ (j : ℕ) (l : j < B.header.constraints) (live : (B.constraint j).mode ≡ 0 → ⊥) where
    -- the default factors make a million, factored or not
    default_whole : sum_over B.unit B.header.units (B.constraint j).id (λ q. q.dcf) + (B.constraint j).drcf ≡ million
    default_whole = by (eqb (B.constraint j).mode 1) refl
      where
        by : (t : Bool) → eqb (B.constraint j).mode 1 ≡ t → sum_over B.unit B.header.units (B.constraint j).id (λ q. q.dcf) + (B.constraint j).drcf ≡ million
        by true e = (p.sound.factored j l (eqb-true (B.constraint j).mode 1 e)).dcf
        by false e =
            let d = eqb-false (B.constraint j).mode 1 e in
            let m = (p.sound.fields.constraints j l).mode in
            (p.sound.default j l (omega arith)).dcf

    -- the factors of a kind make the amount to recover
    factors_whole : (kind : Kind) → belongs (B.constraint j) kind ≡ true
        → let r = B.constraint j in
        pool_by kind (pools_of r) * (sum_over B.unit B.header.units r.id (below_by kind) + rest_below kind r)
        ≡ pool_by kind (pools_of r) * (sum_over B.unit B.header.units r.id (above_by kind) + rest_above kind r) + million * recovers r kind
    unfolding belongs pool_by factor_above factor_below recovers
    factors_whole Contingency h = absurd (live (eqb-true (B.constraint j).mode 0 h))
    factors_whole Fpp h =
        let w = p.sound.factored j l (eqb-true (B.constraint j).mode 1 h) in
        rw (w.ncf, w.pcf) (omega arith)
    factors_whole Used h =
        let w = p.sound.factored j l (eqb-true (B.constraint j).mode 1 h) in
        rw (w.ncf, no_factor_lem (B.constraint j).id) (omega arith)
    factors_whole Unused h = rw (default_whole, no_factor_lem (B.constraint j).id) (omega arith)
    factors_whole Payment h = omega arith

    -- a regulation pool has one amount that is rounded before it is shared
    one_stage : (kind : Kind) → belongs (B.constraint j) kind ≡ true → stages_of kind ≡ 1
    unfolding belongs stages_of
    one_stage Contingency h = absurd (live (eqb-true (B.constraint j).mode 0 h))
    one_stage Fpp h = refl
    one_stage Used h = refl
    one_stage Unused h = refl
    one_stage Payment h = cc

    -- unit lines, the residual pool and its lines
    regulation_pool : (kind : Kind) → belongs (B.constraint j) kind ≡ true → Accounted B L (constraint_pool (B.constraint j) kind)
    unfolding constraint_pool regulation_shape stages_by constraint_stages regulation_stages
    regulation_pool kind h =
        let r = B.constraint j in
        let pool = pool_by kind (pools_of r) in
        let credit = credit_by kind (residual_pools r (pools_of r)) in
        let charge = charge_by kind (residual_pools r (pools_of r)) in
        accounted B L (constraint_pool r kind)
        (unit_credit B.unit B.header.units r.id kind pool + shared_sum (energies_of B) r credit)
        (unit_charge B.unit B.header.units r.id kind pool + shared_sum (energies_of B) r charge)
        (regulation_balance p j kind l live h)
        (rw (ne_eqb r.mode 0 live))
        (left_behind (eqb r.mode 1) (pool_stage r kind) _ (pool_left r kind)
        (left_as _ _ _
        (left_more (unit_stage B L r kind) _ (unit_left p j l o kind)
        (left_more (residual_stage r kind) _ (residual_left r kind (o.constraints j))
        (left_more (share_stage B L r kind) [] (share_left p j l o kind) left_none)))
        (omega (arith, one_stage kind h)) refl))
        (omega (arith, factors_whole kind h))

  -- ---- contracts

  module _ (i : ℕ) (l : i < B.header.contracts) where
    -- region by region
    contract_pool_lem : Accounted B L (contract_pool (B.contract i))
    unfolding contract_pool contract_shape stages_by contract_stages part_over benefiting
    contract_pool_lem =
        let k = B.contract i in
        let E = pick (settled_by k) B L in
        let paid : ℕ → ℕ = region_paid (energies_of E) k in
        let count = count_times (λ g. eqb (factor_of k.factors g) 0) (1 + 2 * length (accounts_of B L)) 5 in
        let parts : total (part_over k) 5 ≡ k.payment * total (factor_of k.factors) 5 = rw (total_five (part_over k), total_five (factor_of k.factors)) (omega arith) in
        let sums : total (λ g. paid g * million) 5 ≡ total paid 5 * million = rw (total_five paid, total_five (λ g. paid g * million)) (omega arith) in
        accounted B L (contract_pool k) 0 (total paid 5) (contract_balance p i l) refl
        (left_as _ _ _ (left_joined (region_stages E (accounts_of B L) k) _ (part_over k) (λ g. paid g * million) 5 (region_left p i l)) (omega arith) refl)
        (rw (parts, sums, (p.sound.fields.contracts i l).whole) (omega arith))

  -- ---- all pools

  -- each that a number finds
  pub pools_accounted : Each (Accounted B L) (pools_in (public_of B))
  pools_accounted = each_pool (Accounted B L) B contingency_pool regulation_pool contract_pool_lem
