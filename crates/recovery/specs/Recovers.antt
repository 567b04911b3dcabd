-- What a pool has to recover, and in how many regions a contract is paid.
use Rattle.std.specs.Prelude.{ℕ, cond, eqb}
use Rattle.sections.specs.Total.{total}
use Rattle.rules.specs.Rules.{factor_of}
use Rattle.records.specs.declared.rows.Constraint.{Constraint}
use Rattle.records.specs.declared.rows.Contract.{Contract}
use Rattle.amounts.specs.Pools.{pools_of}
use Rattle.recovery.specs.declared.kinds.Kind.{Kind}
use Rattle.recovery.specs.declared.kinds.Kind.TheVariants.{Contingency, Fpp, Used, Unused, Payment}

-- "the amount to recover (0 for FPP)"
unfoldable pub recovers : Constraint → Kind → ℕ
recovers r Contingency = r.cost
recovers r Fpp = 0
recovers r Used = (pools_of r).used
recovers r Unused = (pools_of r).unused
recovers r Payment = 0

-- "one half more per benefiting region": each region's part of the payment is rounded before it is shared
unfoldable pub benefiting : Contract → ℕ
benefiting k = total (λ g. cond (eqb (factor_of k.factors g) 0) 0 1) 5
