-- How many lines a group has.
use Rattle.std.specs.Prelude.{ℕ, cond, eqb}
use Rattle.records.specs.declared.rows.Constraint.{Constraint}

-- a unit row of the constraint, and its residual
unfoldable pub each_of : Constraint → ℕ
each_of r = cond (eqb r.mode 1) 3 1

-- a contract in a region, by its benefit factor there
abbrev pub region_each : ℕ → ℕ
region_each factor = cond (eqb factor 0) 0 2
