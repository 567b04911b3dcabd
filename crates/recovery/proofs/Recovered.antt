-- What the used and the unused pool of a constraint recover makes its cost. 01, The amounts: "unused = cost - used. Mode 2: all unused."
-- Assumes nothing.
use Prim.Native.Nat.{◌+◌}
use mathlib.Core.Path.{◌≡◌}
use mathlib.Core.Bool.{Bool, true, false, cond}
use native.Mathlib.Omega.{arith}
use lib.Dec.{eqb}
use Rattle.numbers.proofs.Rounding.{round_share}
use Rattle.market.specs.Kinds.{mode_with}
use Rattle.rules.specs.Inner.Facts.{ConstraintRule}
use Rattle.market.specs.declared.Mode.TheVariants as mode
use Rattle.records.specs.declared.rows.Constraint.{Constraint}
use Rattle.amounts.specs.Pools.{pools_by_mode}
use Rattle.recovery.specs.Recovers.{recovers}
use Rattle.recovery.specs.declared.kinds.Kind.TheVariants.{Used, Unused}

pub used_and_unused_make_the_cost : (r : Constraint) → ConstraintRule r → recovers r Used + recovers r Unused ≡ r.cost
unfolding recovers pools_by_mode mode_with
used_and_unused_make_the_cost r h = by (eqb r.mode 0) (eqb r.mode 1) (eqb r.mode 2)
  where
    by : (x y z : Bool) → (pools_by_mode r.cost (cond x mode.Contingency (cond y (mode.Factored r.price r.rcr r.usage) (cond z mode.Default mode.Unknown)))).used + (pools_by_mode r.cost (cond x mode.Contingency (cond y (mode.Factored r.price r.rcr r.usage) (cond z mode.Default mode.Unknown)))).unused ≡ r.cost
    by true y z = omega arith
    by false true z = omega (arith, round_share r.cost r.usage 1_000_000 h.terms.usage)
    by false false true = omega arith
    by false false false = omega arith

pub default_recovers_the_cost : (r : Constraint) → r.mode ≡ 2 → recovers r Unused ≡ r.cost
unfolding recovers pools_by_mode mode_with
default_recovers_the_cost r e = rw e
