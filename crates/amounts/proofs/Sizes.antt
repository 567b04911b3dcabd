-- Every pool, residual pool and half of an accepted book is at most 50,000,000,000, so that every product fits. Assumes nothing.
use Prim.Native.Nat.{ℕ, ◌*◌, ◌≤◌}
use mathlib.Core.Path.{◌≡◌, sym, ◌∙◌}
use mathlib.Core.Bool.{Bool, true, false, cond}
use lib.Dec.{eqb}
use native.Mathlib.Omega.{arith}
use lib.IntN.{ℤ}
use Rattle.numbers.specs.Round.{round_n, cut_n}
use Rattle.numbers.proofs.Rounding.{round_share, half_below}
use Rattle.market.specs.Kinds.{mode_with}
use Rattle.rules.specs.Rules.{mode_of}
use Rattle.rules.specs.Inner.Facts.{ConstraintRule}
use Rattle.market.specs.declared.Mode.{Mode}
use Rattle.market.specs.declared.Mode.TheVariants.{Contingency, Factored, Default, Unknown}
use Rattle.records.specs.declared.rows.Constraint.{Constraint}
use Rattle.amounts.specs.Pools.{pools_by_mode, pools_of, pool_cuts_by_mode, pool_cuts_of, residual_pools, halves_of}
use Rattle.amounts.specs.Inner.Bounds.{SmallPools, SmallResidual, SmallHalves}
use Rattle.amounts.specs.declared.pools.Pools.{Pools}

-- the data of a factored mode are in range
pub record InRange (price response usage : ℕ) : Type 0 where
  pub product : price * response ≤ 6_000_000_000_000
  pub used : usage ≤ 1_000_000

abbrev DataOf : Mode → Type 0
DataOf Contingency = Unit
DataOf (Factored p s u) = InRange p s u
DataOf Default = Unit
DataOf Unknown = Unit

data_of : (r : Constraint) → ConstraintRule r → DataOf (mode_of r)
unfolding mode_with
data_of r h = by (eqb r.mode 0) (eqb r.mode 1) (eqb r.mode 2)
  where
    by : (x y z : Bool) → DataOf (cond x Contingency (cond y (Factored r.price r.rcr r.usage) (cond z Default Unknown)))
    by true y z = tt
    by false true z = record { product = h.terms.product; used = h.terms.usage }
    by false false true = tt
    by false false false = tt

-- what a mode found to be factored holds
pub data_in : (r : Constraint) {m : Mode} {p s u : ℕ} → ConstraintRule r → m ≡ mode_of r → m ≡ Factored p s u → InRange p s u
data_in r h e f = rw (sym e ∙ f) at (data_of r h)

-- and what rounding its pools cut off
pub cuts_factored : (r : Constraint) {m : Mode} {p s u : ℕ} {x y : ℤ} → m ≡ mode_of r → m ≡ Factored p s u → x ≡ cut_n (p * s) 120 → y ≡ cut_n (r.cost * u) 1_000_000 → record { fpp = x; used = y } ≡ pool_cuts_of r
unfolding pool_cuts_by_mode
cuts_factored r e f x y = rw (sym e, f, x, y)

-- a rounded 120th of 6,000,000,000,000
fpp_small : (n : ℕ) → n ≤ 6_000_000_000_000 → round_n n 120 ≤ 50_000_000_000
fpp_small n l = omega (arith, half_below n 120 (omega arith))

pub pools_small : (r : Constraint) → ConstraintRule r → SmallPools (pools_of r)
unfolding pools_by_mode
pools_small r h = by (mode_of r) (data_of r h)
  where
    by : (m : Mode) → DataOf m → SmallPools (pools_by_mode r.cost m)
    by Contingency d = record { fpp = omega arith; used = omega arith; unused = h.cost }
    by (Factored p s u) d =
        record {
          fpp = fpp_small (p * s) d.product;
          used = omega (arith, round_share r.cost u 1_000_000 d.used, h.cost);
          unused = omega (arith, h.cost);
        }
    by Default d = record { fpp = omega arith; used = omega arith; unused = h.cost }
    by Unknown d = record { fpp = omega arith; used = omega arith; unused = h.cost }

pub residual_small : (r : Constraint) (p : Pools) → ConstraintRule r → SmallPools p → SmallResidual (residual_pools r p)
unfolding residual_pools
residual_small r p h s =
    record {
      credit = omega (arith, round_share p.fpp r.prcf 1_000_000 h.prcf, s.fpp);
      charge = omega (arith, round_share p.fpp r.nrcf 1_000_000 h.nrcf, s.fpp);
      used = omega (arith, round_share p.used r.nrcf 1_000_000 h.nrcf, s.used);
      unused = omega (arith, round_share p.unused r.drcf 1_000_000 h.drcf, s.unused);
    }

pub halves_small : (payment factor : ℕ) → payment ≤ 50_000_000_000 → factor ≤ 1_000_000 → SmallHalves (halves_of payment factor)
unfolding halves_of
halves_small payment factor l m =
    let h = round_share payment factor 1_000_000 m in
    record { consumed = omega arith; sent = omega arith }
