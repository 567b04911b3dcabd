-- Each stage as its function makes it, from what that was answered. Assumes nothing.
use Prim.Native.Nat.{ℕ, ◌*◌, ◌^◌, ◌≤◌}
use mathlib.Core.Path.{◌≡◌, ◌∙◌, subst}
use native.Mathlib.Omega.{arith}
use lib.IntN.{ℤ, nat_abs, ◌-ℤ◌}
use Rattle.numbers.specs.Round.{round_n, cut_n, Rounds}
use Rattle.numbers.specs.declared.round.Rounded.{Rounded}
use Rattle.numbers.proofs.Rounding.{cut_half}
use Rattle.market.specs.declared.Mode.{Mode}
use Rattle.market.specs.declared.Mode.TheVariants.{Contingency, Factored, Default, Unknown}
use Rattle.market.specs.declared.Basis.TheVariants as basis
use Rattle.rules.specs.Rules.{mode_of, factor_of}
use Rattle.rules.specs.Inner.Facts.{ConstraintRule}
use Rattle.records.specs.declared.rows.Constraint.{Constraint}
use Rattle.records.specs.declared.rows.Contract.{Contract}
use Rattle.records.specs.declared.rows.Entry.{Entry}
use Rattle.totals.specs.Divisors.{over_regions}
use Rattle.totals.specs.Inner.Energies.{Energies}
use Rattle.book.specs.Book.{Book}
use Rattle.amounts.specs.Pools.{pool_cuts_by_mode, pool_cuts_of, halves_of}
use Rattle.amounts.specs.Shares.{cut_by_factor}
use Rattle.amounts.specs.declared.pools.Halves.{Halves}
use Rattle.sharing.specs.Inner.Shares.{part_cut, Shareable}
use Rattle.sharing.specs.declared.shares.Part.{Part}
use Rattle.recovery.specs.ByKind.{rest_above, rest_below, factor_above, factor_below}
use Rattle.recovery.specs.Inner.Shapes.{recovery_of, consumed_part, sent_part, shared_cut}
use Rattle.recovery.specs.Inner.Units.{CutsAre}
use Rattle.recovery.specs.Inner.Rests.{CutIs}
use Rattle.recovery.specs.declared.kinds.Kind.{Kind}
use Rattle.recovery.specs.declared.kinds.Kind.TheVariants as kind
use Rattle.recovery.specs.declared.kinds.Recovery.{Recovery}
use Rattle.cutoffs.specs.Cutoffs.{residual_stage, part_over, whole_stage, half_stage}
use Rattle.cutoffs.specs.Inner.Shapes.{line_shape, unit_shape, share_shape, half_part, ace_shape, asoe_shape}
use Rattle.cutoffs.specs.declared.contracts.Side.TheVariants.{Consumed, SentOut}
use Rattle.cutoffs.specs.declared.Stage.{Stage}
use Rattle.cutoffs.specs.declared.Cut.{Cut}
use Rattle.cutoffs.specs.declared.Stage.TheVariants.{Line, Unit, Residual, Share, Whole, Half, Ace, Asoe}

-- ---- a constraint's

-- what rounding the used pool cuts off
pub used_low : (r : Constraint) → nat_abs (pool_cuts_of r).used ≤ 500_000
unfolding pool_cuts_by_mode
used_low r = by (mode_of r)
  where
    by : (m : Mode) → nat_abs (pool_cuts_by_mode r.cost m).used ≤ 500_000
    by Contingency = omega arith
    by (Factored p s u) = omega (arith, cut_half (r.cost * u) 1_000_000 (omega arith))
    by Default = omega arith
    by Unknown = omega arith

-- the residual's factor is at most a whole
pub rest_above_low : (r : Constraint) (k : Kind) → ConstraintRule r → rest_above k r ≤ 1_000_000
unfolding factor_above
rest_above_low r kind.Contingency h = omega arith
rest_above_low r kind.Fpp h = h.prcf
rest_above_low r kind.Used h = omega arith
rest_above_low r kind.Unused h = omega arith
rest_above_low r kind.Payment h = omega arith

pub rest_below_low : (r : Constraint) (k : Kind) → ConstraintRule r → rest_below k r ≤ 1_000_000
unfolding factor_below
rest_below_low r kind.Contingency h = omega arith
rest_below_low r kind.Fpp h = h.nrcf
rest_below_low r kind.Used h = h.nrcf
rest_below_low r kind.Unused h = h.drcf
rest_below_low r kind.Payment h = omega arith

-- contingency's lines
pub line_is : (E : Energies) (r : Constraint) {whole : ℕ} {cut : ℤ} → whole ≡ over_regions E.entry r → cut ≡ shared_cut E r r.cost → record { stage = Line; region = 0; divisor = whole; cut = cut } ≡ line_shape E r
unfolding line_shape
line_is E r w c = rw (w, c)

-- unit lines: the sums are over all unit rows
pub unit_is : (B : Book) (r : Constraint) (k : Kind) {x : Recovery} {cut : ℤ} → x ≡ recovery_of r k
    → CutsAre B.unit B.header.units r.id k x.pool B.header.units cut
    → record { stage = Unit; region = 0; divisor = 1_000_000; cut = cut } ≡ unit_shape B r k
unfolding unit_shape recovery_of
unit_is B r k e s = rw (s.cut, e)

-- above and below are the residual's two factors, p and q its sides as rounded
pub residual_is : (r : Constraint) (k : Kind) {x : Recovery} {above below : ℕ} {p q : Rounded} {cut : ℤ} → x ≡ recovery_of r k → above ≡ rest_above k r
    → below ≡ rest_below k r → Rounds (x.pool * above) 1_000_000 p → Rounds (x.pool * below) 1_000_000 q → cut ≡ p.cut -ℤ q.cut
    → record { stage = Residual; region = 0; divisor = 1_000_000; cut = cut } ≡ residual_stage r k
unfolding residual_stage recovery_of cut_by_factor
residual_is r k e a b p q c = rw (c, p.cut, q.cut, a, b, e)

-- what is cut off by the energies that are lent is cut off by the book's
pub cut_in : {E F : Energies} → E ≡ F → {r : Constraint} {amount : ℕ} {x : ℤ} → CutIs E r amount x → CutIs F r amount x
cut_in e {r} {amount} {x} s = subst (λ (E : Energies). CutIs E r amount x) e s

-- residual lines: y and z are what is cut off the two sides of the residual pool
pub share_is : (E : Energies) (r : Constraint) (k : Kind) {x : Recovery} {whole : ℕ} {y z cut : ℤ} → x ≡ recovery_of r k
    → whole ≡ over_regions E.entry r → CutIs E r x.credit y → CutIs E r x.charge z → cut ≡ y -ℤ z
    → record { stage = Share; region = 0; divisor = whole; cut = cut } ≡ share_shape E r k
unfolding share_shape recovery_of
share_is E r k e w y z c = rw (c, y.cut, z.cut, w, e)

-- ---- a contract's in region g

-- the lines of a half: z is what is cut off its shares
pub lines_are : {s : Stage} {g whole : ℕ} {cut z : ℤ} → cut ≡ z → ◌≡◌ {A = Cut} (record { stage = s; region = g; divisor = whole; cut = cut }) (record { stage = s; region = g; divisor = whole; cut = z })
lines_are c = rw c

module _ (k : Contract) (g : ℕ) where
  -- the part of the payment
  pub whole_is : {cut : ℤ} → cut ≡ cut_n (k.payment * factor_of k.factors g) 1_000_000 → record { stage = Whole; region = g; divisor = 1_000_000; cut = cut } ≡ whole_stage k g
  unfolding whole_stage part_over
  whole_is c = rw c

  -- its consumed half
  pub half_is : {part : ℕ} {cut : ℤ} → part ≡ round_n (k.payment * factor_of k.factors g) 1_000_000 → cut ≡ cut_n part 2 → record { stage = Half; region = g; divisor = 2; cut = cut } ≡ half_stage k g
  unfolding half_stage part_over
  half_is p c = rw (c, p)

  -- the two halves as parts that are shared
  module _ (entry : ℕ → Entry) {x : Halves} {e : Entry} {number mask : ℕ} (h : x ≡ halves_of k.payment (factor_of k.factors g)) (i : e ≡ entry g) (r : number ≡ g) (m : mask ≡ 2 ^ number) where
    pub consumed_is : record { amount = x.consumed; whole = e.ace; mask = mask; basis = basis.Ace } ≡ half_part Consumed entry k g
    unfolding half_part consumed_part
    consumed_is = rw (h, i, m, r)

    pub sent_is : record { amount = x.sent; whole = e.asoe; mask = mask; basis = basis.Asoe } ≡ half_part SentOut entry k g
    unfolding half_part sent_part
    sent_is = rw (h, i, m, r)

  -- they can be shared, and make the lines by ACE and by ASOE
  module _ (E : Energies) {p : Part} where
    pub consumed_fits : p ≡ half_part Consumed E.entry k g → Shareable (consumed_part E.entry k g) E.row E.rows → Shareable p E.row E.rows
    unfolding half_part
    consumed_fits e s = rw e s

    pub sent_fits : p ≡ half_part SentOut E.entry k g → Shareable (sent_part E.entry k g) E.row E.rows → Shareable p E.row E.rows
    unfolding half_part
    sent_fits e s = rw e s

    pub ace_is : p ≡ half_part Consumed E.entry k g → {c : Cut} → c ≡ record { stage = Ace; region = g; divisor = p.whole; cut = part_cut p E.row E.rows } → c ≡ ace_shape E k g
    unfolding half_part consumed_part ace_shape
    ace_is e q = q ∙ rw e

    pub asoe_is : p ≡ half_part SentOut E.entry k g → {c : Cut} → c ≡ record { stage = Asoe; region = g; divisor = p.whole; cut = part_cut p E.row E.rows } → c ≡ asoe_shape E k g
    unfolding half_part sent_part asoe_shape
    asoe_is e q = q ∙ rw e
