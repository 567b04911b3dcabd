-- What a regulation pool is of a constraint, by its kind: which factors share it, and its residual pool. 01, The amounts.
use Rattle.std.specs.Prelude.{ℕ}
use Rattle.records.specs.declared.rows.Constraint.{Constraint}
use Rattle.records.specs.declared.rows.UnitRow.{UnitRow}
use Rattle.amounts.specs.declared.pools.Pools.{Pools}
use Rattle.amounts.specs.declared.pools.Residual.{Residual}
use Rattle.recovery.specs.declared.kinds.Factors.{Factors}
use Rattle.recovery.specs.declared.kinds.Kind.{Kind}
use Rattle.recovery.specs.declared.kinds.Kind.TheVariants.{Contingency, Fpp, Used, Unused, Payment}

-- "FPP by CF, used by min(0, CF), unused by DCF": the factor is factor_above - factor_below
unfoldable pub factor_above : Kind → Factors → ℕ
factor_above Contingency f = 0
factor_above Fpp f = f.above
factor_above Used f = 0
factor_above Unused f = 0
factor_above Payment f = 0

unfoldable pub factor_below : Kind → Factors → ℕ
factor_below Contingency f = 0
factor_below Fpp f = f.below
factor_below Used f = f.below
factor_below Unused f = f.default
factor_below Payment f = 0

-- of a unit row: CF and DCF
abbrev pub unit_factors : UnitRow → Factors
unit_factors q = record { above = q.pcf; below = q.ncf; default = q.dcf }

abbrev pub above_by : Kind → UnitRow → ℕ
above_by kind q = factor_above kind (unit_factors q)

abbrev pub below_by : Kind → UnitRow → ℕ
below_by kind q = factor_below kind (unit_factors q)

-- the pool that unit rows share
unfoldable pub pool_by : Kind → Pools → ℕ
pool_by Contingency p = 0
pool_by Fpp p = p.fpp
pool_by Used p = p.used
pool_by Unused p = p.unused
pool_by Payment p = 0

-- "Residual pools are made the same way, from RCF, min(0, RCF), DRCF"
abbrev pub rest_factors : Constraint → Factors
rest_factors r = record { above = r.prcf; below = r.nrcf; default = r.drcf }

abbrev pub rest_above : Kind → Constraint → ℕ
rest_above kind r = factor_above kind (rest_factors r)

abbrev pub rest_below : Kind → Constraint → ℕ
rest_below kind r = factor_below kind (rest_factors r)

-- the residual pool is credit_by - charge_by
unfoldable pub credit_by : Kind → Residual → ℕ
credit_by Contingency x = 0
credit_by Fpp x = x.credit
credit_by Used x = 0
credit_by Unused x = 0
credit_by Payment x = 0

unfoldable pub charge_by : Kind → Residual → ℕ
charge_by Contingency x = 0
charge_by Fpp x = x.charge
charge_by Used x = x.used
charge_by Unused x = x.unused
charge_by Payment x = 0
