-- The parts by which pools are shared, of sound energies: the whole of each is what the energy rows make, and not 0. And what a pool rests on is
-- small. Assumes nothing.
use Prim.Native.Nat.{ℕ, ◌≤◌, ◌<◌, ◌*◌}
use mathlib.Core.Path.{◌≡◌, refl}
use mathlib.Core.Bool.{true}
use native.Mathlib.Omega.{arith}
use lib.IntN.{ℤ, nat_abs}
use Rattle.sections.proofs.Total.{total_bound}
use Rattle.rules.specs.Rules.{factor_of}
use Rattle.records.specs.declared.rows.Constraint.{Constraint}
use Rattle.records.specs.declared.rows.Contract.{Contract}
use Rattle.totals.specs.Divisors.{counted_in, over_regions}
use Rattle.totals.specs.Inner.Energies.{Energies, EnergiesSound, PartLaid}
use Rattle.totals.proofs.Turns.{share_small}
use Rattle.amounts.specs.Inner.Bounds.{SmallResidual, SmallHalves, SmallPools}
use Rattle.amounts.specs.Pools.{pools_of, halves_of}
use Rattle.amounts.specs.declared.pools.Residual.{Residual}
use Rattle.amounts.proofs.Sizes.{pools_small, residual_small, halves_small}
use Rattle.sharing.specs.Inner.Shares.{Sorted, Shareable, part_sum, part_cut}
use Rattle.sharing.specs.declared.shares.Part.{Part}
use Rattle.recovery.specs.ByKind.{credit_by, charge_by, pool_by}
use Rattle.recovery.specs.Inner.Shapes.{part_of, consumed_part, sent_part, recovery_of}
use Rattle.recovery.specs.Inner.Rests.{PaidBy, PartIs, CutIs}
use Rattle.recovery.specs.declared.kinds.Kind.{Kind}
use Rattle.recovery.specs.declared.kinds.Kind.TheVariants.{Contingency, Fpp, Used, Unused, Payment}
use Rattle.recovery.proofs.Energy.{Counted, constraint_energy, region_energy}
use mathlib.Core.List.{List}
use lib.ListN.{length, length-drop}
use Rattle.ground.specs.Bytes.{part_from}
use Rattle.ground.proofs.Part.{part_drop}
use Rattle.rules.specs.Inner.Facts.{ConstraintRule}
use Rattle.market.specs.Kinds.{basis_of}
use Rattle.totals.specs.declared.entries.EnergyPart.{EnergyPart}
use Rattle.amounts.specs.declared.pools.Pools.{Pools}
use Rattle.recovery.specs.Recovers.{recovers}
use Rattle.recovery.specs.declared.kinds.Recovery.{Recovery}

-- ---- what is small of a residual pool is so of either of its sides, whichever the kind

pub credit_low : (x : Residual) (kind : Kind) → SmallResidual x → credit_by kind x ≤ 50_000_000_000
unfolding credit_by
credit_low x Contingency s = omega arith
credit_low x Fpp s = s.credit
credit_low x Used s = omega arith
credit_low x Unused s = omega arith
credit_low x Payment s = omega arith

pub charge_low : (x : Residual) (kind : Kind) → SmallResidual x → charge_by kind x ≤ 50_000_000_000
unfolding charge_by
charge_low x Contingency s = omega arith
charge_low x Fpp s = s.charge
charge_low x Used s = s.used
charge_low x Unused s = s.unused
charge_low x Payment s = omega arith

-- ---- sound energies

module _ {E : Energies} (s : EnergiesSound E) where
  -- the energy rows are in order
  pub sorted : Sorted E.row E.rows
  sorted = record { few = s.few; rules = s.rules; order = s.order }

  -- each entry has the sums over all rows of its region
  entry_counted : Counted E.row E.rows (λ i. true) E.entry
  entry_counted = record { low = λ i l. (s.rules i l).region; sums = λ b g l. (s.sums g l).each b }

  -- an amount over a constraint's regions
  pub constraint_shareable : (r : Constraint) (amount : ℕ) → 0 < over_regions E.entry r → amount ≤ 50_000_000_000 → Shareable (part_of E.entry r amount) E.row E.rows
  unfolding part_of
  constraint_shareable r amount above small =
      record {
        whole = constraint_energy entry_counted E.entry r amount;
        above = above;
        below = omega (arith, total_bound (λ g. counted_in r (E.entry g) g) 20_000_000 5 (λ g b. share_small r (E.entry g) g (s.entries g b)));
        small = small;
      }

  module _ {k : Contract} (o : PaidBy E.entry k) (g : ℕ) (m : g < 5) (d : factor_of k.factors g ≡ 0 → ⊥) where
    contract_halves : SmallHalves (halves_of k.payment (factor_of k.factors g))
    contract_halves = halves_small _ _ o.payment (o.factor g m)

    -- the two halves of a contract's payment in a region that benefits
    pub consumed_shareable : Shareable (consumed_part E.entry k g) E.row E.rows
    unfolding consumed_part
    consumed_shareable =
        record {
          whole = region_energy entry_counted (consumed_part E.entry k g) g m refl;
          above = (o.funded g m d).ace;
          below = omega (arith, (s.entries g m).ace);
          small = contract_halves.consumed;
        }

    pub sent_shareable : Shareable (sent_part E.entry k g) E.row E.rows
    unfolding sent_part
    sent_shareable =
        record {
          whole = region_energy entry_counted (sent_part E.entry k g) g m refl;
          above = (o.funded g m d).asoe;
          below = omega (arith, (s.entries g m).asoe);
          small = contract_halves.sent;
        }

-- the energy rows lie in the bytes
pub rows_room : (s : List ℕ) (p : EnergyPart) → PartLaid s p → p.rows * 24 ≤ length (part_from p.from s)
rows_room s p d = rw (part_drop p.from s, length-drop p.from s) (omega (arith, d.rows))

-- an amount over a constraint's regions as a part, by the total that was found
module _ {E : Energies} (p : EnergiesSound E) (r : Constraint) (amount whole : ℕ) (w : whole ≡ over_regions E.entry r) {part : Part} (e : part ≡ record { amount = amount; whole = whole; mask = r.mask; basis = basis_of r.service }) where
  part_is : part ≡ part_of E.entry r amount
  unfolding part_of
  part_is = rw (e, w)

  pub over_shareable : 0 < whole → amount ≤ 50_000_000_000 → Shareable part E.row E.rows
  over_shareable a s = rw part_is (constraint_shareable p r amount (rw w at a) s)

  pub over_is : {x : ℕ} → (x ≡ part_sum part E.row E.rows) × (x ≤ 51_200_000_000_000) → PartIs E r amount x
  over_is s = record { sum = rw part_is at s.0; small = s.1 }

  pub cut_is : {x : ℤ} → (x ≡ part_cut part E.row E.rows) × (nat_abs x ≤ 51_200_000_000) → CutIs E r amount x
  cut_is s = record { cut = rw part_is at s.0; small = s.1 }

-- ---- what a regulation pool rests on is small

pool_low : (q : Pools) (kind : Kind) → SmallPools q → pool_by kind q ≤ 50_000_000_000
unfolding pool_by
pool_low q Contingency s = omega arith
pool_low q Fpp s = s.fpp
pool_low q Used s = s.used
pool_low q Unused s = s.unused
pool_low q Payment s = omega arith

recovers_low : (r : Constraint) (kind : Kind) → ConstraintRule r → SmallPools (pools_of r) → recovers r kind ≤ 50_000_000_000
unfolding recovers
recovers_low r Contingency c s = c.cost
recovers_low r Fpp c s = omega arith
recovers_low r Used c s = s.used
recovers_low r Unused c s = s.unused
recovers_low r Payment c s = omega arith

pub record SmallRecovery (x : Recovery) : Type 0 where
  pub amount : x.amount ≤ 50_000_000_000
  pub pool : x.pool ≤ 50_000_000_000
  pub credit : x.credit ≤ 50_000_000_000
  pub charge : x.charge ≤ 50_000_000_000

pub recovery_small : (r : Constraint) (kind : Kind) {x : Recovery} → ConstraintRule r → x ≡ recovery_of r kind → SmallRecovery x
unfolding recovery_of
recovery_small r kind c e =
    let s = pools_small r c in
    let t = residual_small r (pools_of r) c s in
    rw e (record { amount = recovers_low r kind c s; pool = pool_low (pools_of r) kind s; credit = credit_low _ kind t; charge = charge_low _ kind t })
