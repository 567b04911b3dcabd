-- Each kind of line, made from a record by its sizes, is the guide's line of the record with its signs. Assumes nothing.
use Prim.Native.Nat.{ℕ, ◌-◌, ◌*◌, ◌<◌}
use mathlib.Core.Path.{◌≡◌, refl, sym, ap, ap₂, ◌∙◌}
use mathlib.Core.Bool.{Bool, true, false, cond}
use mathlib.Core.List.{List, [], ◌∷◌}
use native.Mathlib.Omega.{arith}
use borrow.Author.Tests.{eqb-true, eqb-false, le-leb, lt-leb}
use lib.Dec.{eqb}
use lib.IntN.{ℤ, pos, neg_ℤ, ◌-ℤ◌, ◌*ℤ◌}
use Rattle.numbers.specs.Round.{round_n}
use Rattle.numbers.proofs.Rounding.{round_share}
use Rattle.sections.specs.Total.{total}
use Rattle.sections.proofs.Total.{total_same}
use Rattle.market.specs.Kinds.{raises, regulates, basis_of, bit_set, mode_with}
use Rattle.rules.specs.Rules.{factor_of}
use Rattle.rules.specs.Inner.Facts.{ConstraintRule}
use Rattle.records.specs.declared.rows.Entry.{Entry}
use Rattle.records.specs.declared.rows.Constraint.{Constraint}
use Rattle.records.specs.declared.rows.UnitRow.{UnitRow}
use Rattle.records.specs.declared.rows.Contract.{Contract}
use Rattle.totals.specs.Sums.{entry_by}
use Rattle.totals.specs.Divisors.{counted_in, over_regions}
use Rattle.amounts.specs.Pools.{all_unused, pools_by_mode, pools_of, residual_pools, halve, halves_of}
use Rattle.amounts.specs.declared.pools.Pools.{Pools}
use Rattle.statement.specs.declared.Line.{Line}
use Rattle.lines.specs.Lines.{shared_line, contingency_line, unused_line, unit_lines, unused_rest, rest_lines, region_lines}
use Rattle.settlement.specs.Settle.{of_constraint}
use Rattle.guide.specs.Numbers.{round, whole_factor}
use Rattle.guide.specs.Signed.{Energies, SignedConstraint, SignedUnit, SignedContract}
use Rattle.guide.specs.Guide as guide
use Rattle.guide.proofs.Numbers.{sides_min0, only_below, factor_sides, factor_minus, by_factor_lem, by_energy_lem, charge_sent, charge_consumed, rest_is, sum_pos, sum_minus}
use Rattle.guide.proofs.Sized.{SizedEnergies, SizedConstraint, SizedUnit, SizedContract}

-- a line from its fields
line_same : (part : ℕ) {i j m n u v : ℕ} {x y : ℤ} → i ≡ j → m ≡ n → u ≡ v → x ≡ y → ◌≡◌ {A = Line} (record { id = i; part = part; regions = m; unit = u; amount = x }) (record { id = j; part = part; regions = n; unit = v; amount = y })
line_same part e f g h = rw (e, f, g, h) refl

-- lists chosen by numbers that are equal
pub chosen : {A : Type 0} {m n : ℕ} (k : ℕ) {xs ys us vs : A} → n ≡ m → (m ≡ k → xs ≡ us) → ((m ≡ k → ⊥) → ys ≡ vs) → cond (eqb m k) xs ys ≡ cond (eqb n k) us vs
chosen {m = m} k {xs} {ys} {us} {vs} e f g = rw e (by (eqb m k) refl)
  where
    by : (t : Bool) → eqb m k ≡ t → cond t xs ys ≡ cond t us vs
    by true t = f (eqb-true m k t)
    by false t = g (eqb-false m k t)

named : {m n i j : ℕ} {xs us : List Line} → n ≡ m → j ≡ i → xs ≡ us → cond (eqb m i) xs [] ≡ cond (eqb n j) us []
named e f g = rw (e, f, g) refl

-- ---- a constraint

module _ (r : Constraint) (z : SignedConstraint) (s : SizedConstraint r z) (h : ConstraintRule r) where
  -- its pools

  pools_one : r.mode ≡ 1 → pools_of r ≡ record { fpp = round_n (r.price * r.rcr) 120; used = round_n (r.cost * r.usage) 1_000_000; unused = r.cost - round_n (r.cost * r.usage) 1_000_000 }
  unfolding pools_by_mode mode_with
  pools_one m = rw m refl

  pools_two : r.mode ≡ 2 → pools_of r ≡ all_unused r.cost
  unfolding pools_by_mode mode_with
  pools_two m = rw m refl

  fpp_is : guide.fpp_pool z ≡ pos (round_n (r.price * r.rcr) 120)
  unfolding guide.fpp_pool round
  fpp_is = rw (s.price, s.rcr) refl

  used_is : guide.used_pool z ≡ pos (round_n (r.cost * r.usage) 1_000_000)
  unfolding guide.used_pool round
  used_is = rw (s.cost, s.usage) refl

  fpp_pool_lem : r.mode ≡ 1 → guide.fpp_pool z ≡ pos (pools_of r).fpp
  fpp_pool_lem m = fpp_is ∙ ap (λ (p : Pools). pos p.fpp) (sym (pools_one m))

  used_pool_lem : r.mode ≡ 1 → guide.used_pool z ≡ pos (pools_of r).used
  used_pool_lem m = used_is ∙ ap (λ (p : Pools). pos p.used) (sym (pools_one m))

  -- "unused = cost - used"
  unused_one : r.mode ≡ 1 → guide.unused_pool z ≡ pos (pools_of r).unused
  unfolding guide.unused_pool
  unused_one m =
      ap (λ (k : ℕ). cond (eqb k 2) z.cost (z.cost -ℤ guide.used_pool z)) (s.mode ∙ m)
      ∙ rest_is s.cost used_is (round_share r.cost r.usage 1_000_000 h.terms.usage)
      ∙ ap (λ (p : Pools). pos p.unused) (sym (pools_one m))

  -- "Mode 2: all unused."
  unused_two : r.mode ≡ 2 → guide.unused_pool z ≡ pos (pools_of r).unused
  unfolding guide.unused_pool
  unused_two m =
      ap (λ (k : ℕ). cond (eqb k 2) z.cost (z.cost -ℤ guide.used_pool z)) (s.mode ∙ m)
      ∙ s.cost
      ∙ ap (λ (p : Pools). pos p.unused) (sym (pools_two m))

  -- a mode that is neither 0 nor 1
  two : (r.mode ≡ 0 → ⊥) → (r.mode ≡ 1 → ⊥) → r.mode ≡ 2
  two live bare = omega (arith, live, bare, h.mode)

  -- its unit lines

  module _ (q : UnitRow) (w : SignedUnit) (u : SizedUnit q w) where
    unused_line_lem : guide.unused_pool z ≡ pos (pools_of r).unused → unused_line r (pools_of r) q ≡ guide.unused_line z w
    unused_line_lem e = line_same 5 (sym s.id) (sym s.mask) (sym u.unit) (by_factor_lem (only_below q.dcf u.dcf) e)

    unit_lines_lem : (r.mode ≡ 0 → ⊥) → unit_lines r (pools_of r) q ≡ guide.unit_lines z w
    unfolding unit_lines guide.unit_lines
    unit_lines_lem live =
        chosen 1 s.mode
        (λ m.
        ap₂ ◌∷◌ (line_same 3 (sym s.id) (sym s.mask) (sym u.unit) (by_factor_lem u.cf (fpp_pool_lem m)))
        (ap₂ ◌∷◌ (line_same 4 (sym s.id) (sym s.mask) (sym u.unit) (by_factor_lem (only_below q.ncf (sides_min0 u.cf)) (used_pool_lem m)))
        (ap₂ ◌∷◌ (unused_line_lem (unused_one m)) refl)))
        (λ bare. ap₂ ◌∷◌ (unused_line_lem (unused_two (two live bare))) refl)

    -- where the account owns the unit and the row names the constraint
    pub own_unit_lem : (account : ℕ) → (r.mode ≡ 0 → ⊥) → cond (eqb q.account account) (of_constraint r q) [] ≡ guide.own_unit account z w
    unfolding of_constraint
    own_unit_lem account live = chosen account u.account (λ e. named u.constraint s.id (unit_lines_lem live)) (λ e. refl)

  -- energies over its regions

  module _ (own : ℕ → Entry) (own_z : ℕ → Energies) (x : Entry → ℕ) (y : Energies → ℤ) (b : (e : Entry) → entry_by (basis_of r.service) e ≡ x e) where
    basis_over : total (λ g. cond (bit_set z.mask g) (x (own g)) 0) 5 ≡ over_regions own r
    unfolding counted_in
    basis_over =
        total_same (λ g. cond (bit_set z.mask g) (x (own g)) 0) (λ g. counted_in r (own g) g) 5
        (λ g l. rw s.mask (ap (λ (k : ℕ). cond (bit_set r.mask g) k 0) (sym (b (own g)))))

    over_pos : ((g : ℕ) → g < 5 → y (own_z g) ≡ pos (x (own g))) → guide.over z (λ g. y (own_z g)) ≡ pos (over_regions own r)
    unfolding guide.over
    over_pos f = sum_pos (λ g. y (own_z g)) (λ g. x (own g)) (bit_set z.mask) 5 f ∙ ap pos basis_over

    over_minus : ((g : ℕ) → g < 5 → y (own_z g) ≡ neg_ℤ (pos (x (own g)))) → guide.over z (λ g. y (own_z g)) ≡ neg_ℤ (pos (over_regions own r))
    unfolding guide.over
    over_minus f = sum_minus (λ g. y (own_z g)) (λ g. x (own g)) (bit_set z.mask) 5 f ∙ ap (λ (k : ℕ). neg_ℤ (pos k)) basis_over

  -- what it shares by: "ASOE for raise, ACE for lower", and TE for regulation

  contingent : r.mode ≡ 0 → regulates r.service ≡ false
  contingent m = lt-leb 9 r.service (omega (arith, h.contingency m))

  by_rest : (r.mode ≡ 0 → ⊥) → (e : Entry) → entry_by (basis_of r.service) e ≡ e.residual
  unfolding basis_of
  by_rest live e = rw (le-leb 9 r.service (h.regulation live)) refl

  by_asoe_lem : r.mode ≡ 0 → raises r.service ≡ true → (e : Entry) → entry_by (basis_of r.service) e ≡ e.asoe
  unfolding basis_of
  by_asoe_lem m t e = rw (contingent m, t) refl

  by_ace_lem : r.mode ≡ 0 → raises r.service ≡ false → (e : Entry) → entry_by (basis_of r.service) e ≡ e.ace
  unfolding basis_of
  by_ace_lem m t e = rw (contingent m, t) refl

  module _ (all own : ℕ → Entry) (all_z own_z : ℕ → Energies) (a : (g : ℕ) → g < 5 → SizedEnergies (all g) (all_z g)) (o : (g : ℕ) → g < 5 → SizedEnergies (own g) (own_z g)) where
    pub contingency_line_lem : r.mode ≡ 0 → contingency_line r (over_regions own r) (over_regions all r) ≡ guide.contingency_line all_z own_z z
    unfolding guide.contingency_line guide.contingency_share
    contingency_line_lem m = by (raises r.service) refl ∙ ap (λ (k : ℕ). cond (raises k) sent consumed) (sym s.service)
      where
        sent : Line
        sent = guide.line_of z 2 0 (guide.contingency_share z (λ g. (own_z g).asoe) (λ g. (all_z g).asoe))

        consumed : Line
        consumed = guide.line_of z 1 0 (guide.contingency_share z (λ g. (own_z g).ace) (λ g. (all_z g).ace))

        by : (t : Bool) → raises r.service ≡ t → shared_line r.id (cond t 2 1) r.mask 0 r.cost (over_regions own r) (over_regions all r) ≡ cond t sent consumed
        by true t =
            let b = by_asoe_lem m t in
            line_same 2 (sym s.id) (sym s.mask) refl
            (charge_sent s.cost (over_regions own r) (over_regions all r)
            (over_pos own own_z (λ e. e.asoe) (λ e. e.asoe) b (λ g l. (o g l).asoe))
            (over_pos all all_z (λ e. e.asoe) (λ e. e.asoe) b (λ g l. (a g l).asoe)))
        by false t =
            let b = by_ace_lem m t in
            line_same 1 (sym s.id) (sym s.mask) refl
            (charge_consumed s.cost (over_regions own r) (over_regions all r)
            (over_minus own own_z (λ e. e.ace) (λ e. e.ace) b (λ g l. (o g l).ace))
            (over_minus all all_z (λ e. e.ace) (λ e. e.ace) b (λ g l. (a g l).ace)))

    -- its residual lines, where it is not of mode 0
    module _ (live : r.mode ≡ 0 → ⊥) where
      own_te : guide.over z (λ g. (own_z g).residual) ≡ pos (over_regions own r)
      own_te = over_pos own own_z (λ e. e.residual) (λ e. e.residual) (by_rest live) (λ g l. (o g l).residual)

      all_te : guide.over z (λ g. (all_z g).residual) ≡ pos (over_regions all r)
      all_te = over_pos all all_z (λ e. e.residual) (λ e. e.residual) (by_rest live) (λ g l. (a g l).residual)

      unused_rest_lem : guide.unused_pool z ≡ pos (pools_of r).unused → unused_rest r (residual_pools r (pools_of r)) (over_regions own r) (over_regions all r) ≡ guide.rest_line all_z own_z z 8 (guide.unused_pool z) z.drcf
      unfolding residual_pools guide.rest_line
      unused_rest_lem e =
          line_same 8 (sym s.id) (sym s.mask) refl
          (by_energy_lem (only_below (round_n ((pools_of r).unused * r.drcf) 1_000_000) (factor_minus r.drcf s.drcf e)) own_te all_te)

      pub rest_lines_lem : rest_lines r (residual_pools r (pools_of r)) (over_regions own r) (over_regions all r) ≡ guide.rest_lines all_z own_z z
      unfolding residual_pools rest_lines guide.rest_line guide.rest_lines
      rest_lines_lem =
          chosen 1 s.mode
          (λ m.
          ap₂ ◌∷◌ (line_same 6 (sym s.id) (sym s.mask) refl (by_energy_lem (factor_sides s.rcf (fpp_pool_lem m)) own_te all_te))
          (ap₂ ◌∷◌
          (line_same 7 (sym s.id) (sym s.mask) refl
          (by_energy_lem (only_below (round_n ((pools_of r).used * r.nrcf) 1_000_000) (factor_minus r.nrcf (sides_min0 s.rcf) (used_pool_lem m))) own_te all_te))
          (ap₂ ◌∷◌ (unused_rest_lem (unused_one m)) refl)))
          (λ bare. ap₂ ◌∷◌ (unused_rest_lem (unused_two (two live bare))) refl)

-- ---- a contract in one region

module _ (k : Contract) (z : SignedContract) (s : SizedContract k z) (g : ℕ) (l : g < 5) where
  part_is : guide.region_part z g ≡ pos (round_n (k.payment * factor_of k.factors g) 1_000_000)
  unfolding guide.region_part round
  part_is = ap₂ (λ (x : ℤ) (n : ℕ). round (x *ℤ pos n) whole_factor) s.payment (s.factor g l)

  -- "The consumed half is r / 2, an odd r rounded up; the sent-out half is the rest."
  consumed_is : (x : ℤ) (n : ℕ) → x ≡ pos n → guide.consumed_half x ≡ pos (halve n).consumed
  unfolding guide.consumed_half round
  consumed_is x n e = rw e (ap pos (omega arith))

  sent_is : (x : ℤ) (n : ℕ) → x ≡ pos n → guide.sent_half x ≡ pos (halve n).sent
  unfolding guide.sent_half
  sent_is x n e = rest_is e (consumed_is x n e) (omega arith)

  pub region_lines_lem : (all own : ℕ → Entry) (all_z own_z : ℕ → Energies) → SizedEnergies (all g) (all_z g) → SizedEnergies (own g) (own_z g) → region_lines all own k g ≡ guide.region_lines all_z own_z z g
  unfolding region_lines halves_of guide.region_lines guide.region_line
  region_lines_lem all own all_z own_z a o =
      let n = round_n (k.payment * factor_of k.factors g) 1_000_000 in
      chosen 0 (s.factor g l) (λ e. refl)
      (λ e.
      ap₂ ◌∷◌ (line_same 9 (sym s.id) refl refl (charge_consumed (consumed_is _ n part_is) (own g).ace (all g).ace o.ace a.ace))
      (ap₂ ◌∷◌ (line_same 10 (sym s.id) refl refl (charge_sent (sent_is _ n part_is) (own g).asoe (all g).asoe o.asoe a.asoe)) refl))
