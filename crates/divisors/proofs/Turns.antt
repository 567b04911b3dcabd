-- Sums over a constraint's regions: what is summed on the walk over its mask is the energy over its regions. Assumes nothing.
use Prim.Native.Nat.{ℕ, zero, suc, ◌≤◌}
use mathlib.Core.Path.{◌≡◌}
use mathlib.Core.Bool.{Bool, true, false, cond}
use mathlib.Core.List.{List, ◌∷◌}
use lib.ListN.{length}
use native.Mathlib.Omega.{arith}
use Rattle.market.specs.Kinds.{basis_of, bit_set}
use Rattle.market.specs.Inner.Masks.{regions_from}
use Rattle.market.specs.declared.Basis.{Basis}
use Rattle.market.proofs.Walk.{over_mask}
use Rattle.records.specs.declared.rows.Entry.{Entry}
use Rattle.records.specs.declared.rows.Constraint.{Constraint}
use Rattle.totals.specs.Sums.{entry_by}
use Rattle.totals.specs.Divisors.{counted_in, over_regions}

-- the energy of one kind, region by region
abbrev pub energies : (ℕ → Entry) → Basis → ℕ → ℕ
energies entry b g = entry_by b (entry g)

pub over_is_divisor : (entry : ℕ → Entry) (r : Constraint) {b : Basis} {s : ℕ} → b ≡ basis_of s → s ≡ r.service → over_mask (energies entry b) r.mask ≡ over_regions entry r
unfolding counted_in
over_is_divisor entry r e q = rw (e, q)

-- a walk has no more turns than there are regions
pub regions_few : (mask g n : ℕ) → length (regions_from mask g n) ≤ n
unfolding regions_from
regions_few mask g zero = omega arith
regions_few mask g (suc n) = by (bit_set mask g) (regions_from mask (suc g) n) (regions_few mask (suc g) n)
  where
    by : (t : Bool) (gs : List ℕ) → length gs ≤ n → length (cond t (g ∷ gs) gs) ≤ suc n
    by true gs h = omega arith
    by false gs h = omega arith
