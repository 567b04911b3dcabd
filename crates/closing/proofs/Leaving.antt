-- What each stage of an accepted book's pools leaves, in millionths and by its size. Assumes nothing.
use Prim.Native.Nat.{ℕ, zero, suc, ◌+◌, ◌*◌, ◌≤◌, ◌<◌, ◌^◌}
use mathlib.Core.Path.{◌≡◌, refl, sym, ap₂, subst, ◌∙◌}
use mathlib.Core.Bool.{Bool, true, false, cond}
use mathlib.Core.List.{[], ◌∷◌}
use mathlib.Core.Logic.{◌⊎◌, inl, inr, ⊎_elim}
use native.Mathlib.Omega.{arith}
use native.Mathlib.Nat.{add-mul}
use borrow.Author.Tests.{eqb-true, eqb-false}
use lib.Dec.{eqb}
use lib.IntN.{nat_abs, ◌-ℤ◌}
use lib.ListN.{length}
use Rattle.numbers.specs.Round.{round_n, cut_n}
use Rattle.numbers.specs.Sign.{less}
use Rattle.numbers.proofs.Rounding.{half_above, half_below, cut_half}
use Rattle.numbers.proofs.Ring.{less_minus, less_turned}
use Rattle.numbers.proofs.Signs.{size_negated}
use Rattle.ground.specs.Units.{million}
use Rattle.sections.specs.Total.{total, keyed}
use Rattle.records.specs.declared.rows.Entry.{Entry}
use Rattle.records.specs.declared.rows.Constraint.{Constraint}
use Rattle.records.specs.declared.rows.UnitRow.{UnitRow}
use Rattle.rules.specs.Rules.{factor_of}
use Rattle.locking.specs.Locking.{settled_by, pick}
use Rattle.locking.specs.declared.Source.{Source}
use Rattle.locking.proofs.Picked.{picked_of}
use Rattle.factors.specs.Naming.{key_of}
use Rattle.factors.specs.Factors.{sum_over}
use Rattle.book.specs.Book.{Book}
use Rattle.book.specs.Inner.Accepted.{Promise}
use Rattle.amounts.specs.Pools.{pools_of, residual_pools, halves_of}
use Rattle.amounts.specs.Shares.{cut_by_energy}
use Rattle.accounts.specs.Rows.{sum_z}
use Rattle.accounts.specs.Inner.Energies.{energies_of}
use Rattle.accounts.proofs.Parts.{sound_of}
use Rattle.sharing.specs.Inner.Shares.{part_sum, Shareable}
use Rattle.sharing.specs.declared.shares.Part.{Part}
use Rattle.sharing.proofs.Sums.{signed_halves}
use Rattle.sharing.proofs.Everyone.{nothing_shared, part_cut_is}
use Rattle.recovery.specs.ByKind.{rest_above, rest_below, above_by, below_by, pool_by, credit_by, charge_by}
use Rattle.recovery.specs.Inner.Rests.{PaidBy}
use Rattle.recovery.specs.Inner.Shapes.{unit_rows, unit_credit, unit_charge, cut_above, unit_cut_above, unit_cut_below, part_of, consumed_part, sent_part, shared_sum, region_paid}
use Rattle.recovery.specs.declared.kinds.Kind.{Kind}
use Rattle.recovery.specs.declared.kinds.Kind.TheVariants.{Contingency, Fpp, Used, Unused, Payment}
use Rattle.recovery.proofs.UnitTurns.{cut_is}
use Rattle.recovery.proofs.Sharing.{constraint_shareable, consumed_shareable, sent_shareable}
use Rattle.balance.specs.Balance.{accounts_of}
use Rattle.balance.proofs.Shareables.{cost_shareable, credit_shareable, charge_shareable, paid_by}
use Rattle.balance.proofs.Own.{own_in}
use Rattle.cutoffs.specs.Cutoffs.{own_over, total_over, shares_cut, line_stage, pool_stage, unit_stage, residual_stage, share_stage, whole_stage, half_stage, ace_stage, asoe_stage, part_over, region_stages}
use Rattle.cutoffs.specs.declared.Cut.{Cut}
use Rattle.cutoffs.proofs.Stages.{shares_cut_lem, units_cut, sound_in, half_cut}
use Rattle.closing.specs.Explained.{entering, left_by, said_by}
use Rattle.closing.proofs.Fractions.{Left, left_as, left_none, left_more, stage_whole, stage_millionths}
use Rattle.closing.proofs.Sides.{OneSided, unit_side, rest_side, rest_credit, rest_charge, pools_side, times_side, cut_small, total_halves, above_halves}

-- ---- unit rows

module _ (unit : ℕ → UnitRow) (id : ℕ) where
  -- what is cut off on one side: the exact shares of that side, and the rounded ones of the other
  side_cut : (pool : ℕ) (f g : UnitRow → ℕ) (m : ℕ) → sum_over unit m id (λ q. cut_above pool (f q) (g q)) ≡ pool * sum_over unit m id f + sum_over unit m id (λ q. round_n (pool * g q) million) * million
  unfolding total keyed cut_above
  side_cut pool f g zero = omega arith
  side_cut pool f g (suc m) = by (eqb (key_of unit m) id) (side_cut pool f g m)
    where
      by : (t : Bool) → sum_over unit m id (λ q. pool * f q + round_n (pool * g q) million * million) ≡ pool * sum_over unit m id f + sum_over unit m id (λ q. round_n (pool * g q) million) * million
          → sum_over unit m id (λ q. pool * f q + round_n (pool * g q) million * million) + cond t (pool * f (unit m) + round_n (pool * g (unit m)) million * million) 0
          ≡ pool * (sum_over unit m id f + cond t (f (unit m)) 0) + (sum_over unit m id (λ q. round_n (pool * g q) million) + cond t (round_n (pool * g (unit m)) million) 0) * million
      by true e = omega arith
      by false e = omega arith

  -- what lies above 0 against what lies below, where each row has one side
  units_halves : (m : ℕ) (pool : ℕ) (f g : UnitRow → ℕ) → ((u : ℕ) → (f (unit u) ≡ 0) ⊎ (g (unit u) ≡ 0))
      → 2 * sum_over unit m id (λ q. cut_above pool (f q) (g q)) ≤ 2 * sum_over unit m id (λ q. cut_above pool (g q) (f q)) + sum_over unit m id (λ q. 1) * million
  unfolding keyed
  units_halves m pool f g s = total_halves _ _ _ million m (λ u l. by (eqb (key_of unit u) id) _ _ (above_halves pool (f (unit u)) (g (unit u)) (s u)))
    where
      by : (t : Bool) (x y : ℕ) → 2 * x ≤ 2 * y + million → 2 * cond t x 0 ≤ 2 * cond t y 0 + cond t 1 0 * million
      by true x y h = omega arith
      by false x y h = omega arith

-- ---- a pool that is rounded does not enter: the lines share it as it was rounded

pub pool_left : (r : Constraint) (kind : Kind) → Left 0 0 0 (left_by (pool_stage r kind))
unfolding left_by pool_stage entering
pool_left r Contingency = record { exact = refl; above = omega arith; size = omega arith }
pool_left r Fpp = record { exact = refl; above = omega arith; size = omega arith }
pool_left r Used = record { exact = refl; above = omega arith; size = omega arith }
pool_left r Unused = record { exact = refl; above = omega arith; size = omega arith }
pool_left r Payment = record { exact = refl; above = omega arith; size = omega arith }

-- ---- the residual pool

-- its exact sides against the rounded ones
pub residual_left : (r : Constraint) (kind : Kind) → (r.prcf ≡ 0) ⊎ (r.nrcf ≡ 0)
    → Left 1 (pool_by kind (pools_of r) * rest_below kind r + credit_by kind (residual_pools r (pools_of r)) * million) (pool_by kind (pools_of r) * rest_above kind r + charge_by kind (residual_pools r (pools_of r)) * million) (left_by (residual_stage r kind))
unfolding residual_stage entering cut_above
residual_left r kind s =
    let pool = pool_by kind (pools_of r) in
    let side = rest_side kind r s in
    rw (← rest_credit r (pools_of r) kind, ← rest_charge r (pools_of r) kind)
    (stage_millionths (residual_stage r kind) 1 (cut_above pool (rest_below kind r) (rest_above kind r)) (cut_above pool (rest_above kind r) (rest_below kind r)) refl
    (less_turned _ (cut_above pool (rest_above kind r) (rest_below kind r)) (cut_above pool (rest_below kind r) (rest_above kind r)) (cut_is pool (rest_above kind r) (rest_below kind r)))
    (above_halves pool (rest_below kind r) (rest_above kind r) (⊎_elim inr inl side))
    (above_halves pool (rest_above kind r) (rest_below kind r) side))

-- ---- an accepted book

module _ {B L : Book} (p : Promise B L) where
  -- ---- shares of an amount, credit - charge

  module _ (r : Constraint) (credit charge : ℕ) where
    -- what is cut off: the amount against what is shared of it, each side over the divisor
    shares_less : Shareable (part_of B.entry r credit) B.energy B.header.energies
        → Shareable (part_of B.entry r charge) B.energy B.header.energies
        → shares_cut B L r credit charge ≡ less ((credit + shared_sum (energies_of B) r charge) * total_over B r) ((shared_sum (energies_of B) r credit + charge) * total_over B r)
    unfolding part_of
    shares_less s t =
        let whole = total_over B r in
        let up = shared_sum (energies_of B) r credit in
        let down = shared_sum (energies_of B) r charge in
        shares_cut_lem p r credit charge
        ∙ ap₂ ◌-ℤ◌ (part_cut_is (part_of B.entry r credit) B.energy B.header.energies s) (part_cut_is (part_of B.entry r charge) B.energy B.header.energies t)
        ∙ less_minus (credit * whole) (up * whole) (charge * whole) (down * whole)
        ∙ ap₂ less (sym (add-mul credit down whole)) (sym (add-mul up charge whole))

    -- a half of the divisor for each account, where one side is 0
    shares_small : 0 < total_over B r → (credit ≡ 0) ⊎ (charge ≡ 0) → 2 * nat_abs (shares_cut B L r credit charge) ≤ length (accounts_of B L) * total_over B r
    unfolding shares_cut cut_by_energy
    shares_small l s =
        signed_halves _ (total_over B r) (accounts_of B L) (λ a. cut_small (credit * own_over B r a) (charge * own_over B r a) (total_over B r) l (times_side (own_over B r a) credit charge s))

  module _ (j : ℕ) (l : j < B.header.constraints) where
    -- a contingency's lines
    pub line_left : Left (length (accounts_of B L)) ((B.constraint j).cost * million) (shared_sum (energies_of B) (B.constraint j) (B.constraint j).cost * million) (left_by (line_stage B L (B.constraint j)))
    unfolding line_stage entering part_of
    line_left =
        let r = B.constraint j in
        let none = nothing_shared (part_of B.entry r 0) B.energy B.header.energies refl in
        left_as _ (r.cost * million) (shared_sum (energies_of B) r r.cost * million)
        (stage_whole (line_stage B L r) (length (accounts_of B L)) (r.cost + shared_sum (energies_of B) r 0) (shared_sum (energies_of B) r r.cost + 0) (p.divisor j l)
        (shares_less r r.cost 0 (cost_shareable p j l) (constraint_shareable (sound_of p.sound) r 0 (p.divisor j l) (omega arith)))
        (shares_small r r.cost 0 (p.divisor j l) (inr refl)))
        refl (omega arith)

    -- the unit rows
    pub unit_left : OneSided B → (kind : Kind)
        → let r = B.constraint j in let pool = pool_by kind (pools_of r) in
        Left (unit_rows B.unit B.header.units r.id)
        (pool * sum_over B.unit B.header.units r.id (below_by kind) + unit_credit B.unit B.header.units r.id kind pool * million)
        (pool * sum_over B.unit B.header.units r.id (above_by kind) + unit_charge B.unit B.header.units r.id kind pool * million)
        (left_by (unit_stage B L r kind))
    unfolding unit_stage entering unit_rows unit_credit unit_charge unit_cut_above unit_cut_below
    unit_left o kind =
        let r = B.constraint j in
        let pool = pool_by kind (pools_of r) in
        let above = unit_cut_above B.unit B.header.units r.id kind pool in
        let below = unit_cut_below B.unit B.header.units r.id kind pool in
        rw (← side_cut B.unit r.id pool (below_by kind) (above_by kind) B.header.units, ← side_cut B.unit r.id pool (above_by kind) (below_by kind) B.header.units)
        (stage_millionths (unit_stage B L r kind) _ below above refl
        (less_turned _ above below (units_cut p r kind))
        (units_halves B.unit r.id B.header.units pool (below_by kind) (above_by kind) (λ u. ⊎_elim inr inl (unit_side kind (B.unit u) (o.units u))))
        (units_halves B.unit r.id B.header.units pool (above_by kind) (below_by kind) (λ u. unit_side kind (B.unit u) (o.units u))))

    -- the residual pool's shares
    pub share_left : OneSided B → (kind : Kind)
        → let r = B.constraint j in let credit = credit_by kind (residual_pools r (pools_of r)) in let charge = charge_by kind (residual_pools r (pools_of r)) in
        Left (length (accounts_of B L)) ((shared_sum (energies_of B) r credit + charge) * million) ((credit + shared_sum (energies_of B) r charge) * million) (left_by (share_stage B L r kind))
    unfolding share_stage entering
    share_left o kind =
        let r = B.constraint j in
        let credit = credit_by kind (residual_pools r (pools_of r)) in
        let charge = charge_by kind (residual_pools r (pools_of r)) in
        let up = credit + shared_sum (energies_of B) r charge in
        let down = shared_sum (energies_of B) r credit + charge in
        stage_whole (share_stage B L r kind) (length (accounts_of B L)) down up (p.divisor j l)
        (less_turned (shares_cut B L r credit charge) (up * total_over B r) (down * total_over B r) (shares_less r credit charge (credit_shareable p j l kind) (charge_shareable p j l kind)))
        (rw (size_negated (shares_cut B L r credit charge)) (shares_small r credit charge (p.divisor j l) (pools_side r (pools_of r) kind (rest_side kind r (o.constraints j)))))

  -- ---- a contract, by the book that settles it

  -- a half that is shared in region g
  part_shared : (s : Source) (x : Part) (g : ℕ) → g < 5 → x.mask ≡ 2 ^ g → (c : Cut) → Shareable x (pick s B L).energy (pick s B L).header.energies → c.divisor ≡ x.whole
      → entering c.stage c.cut ≡ sum_z (λ a. cut_n (x.amount * own_in (pick s B L) x g a) x.whole) (accounts_of B L)
      → Left (length (accounts_of B L)) (x.amount * million) (part_sum x (pick s B L).energy (pick s B L).header.energies * million) (left_by c)
  part_shared s x g l m c h d e =
      stage_whole c (length (accounts_of B L)) x.amount (part_sum x (pick s B L).energy (pick s B L).header.energies) (rw d h.above)
      (rw d (e ∙ half_cut p s x g l m ∙ part_cut_is x (pick s B L).energy (pick s B L).header.energies h))
      (rw (d, e) (signed_halves _ x.whole (accounts_of B L) (λ a. cut_half (x.amount * own_in (pick s B L) x g a) x.whole h.above)))

  module _ (i : ℕ) (l : i < B.header.contracts) where
    -- the book that settles it
    abbrev source : Source
    source = settled_by (B.contract i)

    -- each region that it benefits has energy to share by
    pub picked_paid : PaidBy (pick source B L).entry (B.contract i)
    picked_paid = subst (λ (entry : ℕ → Entry). PaidBy entry (B.contract i)) (picked_of (λ (X : Book). X.entry) B L source) (paid_by p i l)

    module _ (g : ℕ) (m : g < 5) where
      -- the part of the payment
      part_left : Left 1 (part_over (B.contract i) g) (round_n (part_over (B.contract i) g) million * million) (left_by (whole_stage (B.contract i) g))
      unfolding whole_stage entering
      part_left =
          let part = part_over (B.contract i) g in
          stage_millionths (whole_stage (B.contract i) g) 1 part (round_n part million * million) refl refl
          (omega (arith, half_above part million (omega arith)))
          (omega (arith, half_below part million (omega arith)))

      -- what its one half lacks the other has
      half_left : Left 0 0 0 (left_by (half_stage (B.contract i) g))
      unfolding left_by half_stage entering
      half_left = record { exact = refl; above = omega arith; size = omega arith }

      -- the region's four stages, where the contract benefits it
      pub region_left : let k = B.contract i in let E = pick source B L in Left (cond (eqb (factor_of k.factors g) 0) 0 (1 + 2 * length (accounts_of B L))) (part_over k g) (region_paid (energies_of E) k g * million) (said_by (region_stages E (accounts_of B L) k g))
      unfolding entering region_stages region_paid part_over halves_of consumed_part sent_part ace_stage asoe_stage
      region_left = by (eqb (factor_of (B.contract i).factors g) 0) refl
        where
          by : (t : Bool) → eqb (factor_of (B.contract i).factors g) 0 ≡ t
              → let k = B.contract i in let E = pick source B L in
              Left (cond t 0 (1 + 2 * length (accounts_of B L))) (k.payment * factor_of k.factors g)
              (cond t 0 (part_sum (consumed_part E.entry k g) E.energy E.header.energies + part_sum (sent_part E.entry k g) E.energy E.header.energies) * million)
              (said_by (cond t [] (whole_stage k g ∷ half_stage k g ∷ ace_stage E (accounts_of B L) k g ∷ asoe_stage E (accounts_of B L) k g ∷ [])))
          by true e = left_as 0 _ _ left_none refl (rw (eqb-true (factor_of (B.contract i).factors g) 0 e) (omega arith))
          by false e =
              let k = B.contract i in
              let E = pick source B L in
              let d = eqb-false (factor_of k.factors g) 0 e in
              left_as _ _ _
              (left_more (whole_stage k g) _ part_left
              (left_more (half_stage k g) _ half_left
              (left_more (ace_stage E (accounts_of B L) k g) _ (part_shared source (consumed_part E.entry k g) g m refl _ (consumed_shareable (sound_of (sound_in p source)) picked_paid g m d) refl refl)
              (left_more (asoe_stage E (accounts_of B L) k g) [] (part_shared source (sent_part E.entry k g) g m refl _ (sent_shareable (sound_of (sound_in p source)) picked_paid g m d) refl refl)
              left_none))))
              (omega arith) (omega arith)
