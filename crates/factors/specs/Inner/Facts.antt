-- What checks 7 and 8 say of a unit row or a constraint, fact by fact, for whoever builds on them, and check 8 of sums that are made already.
use Rattle.std.specs.Prelude.{ℕ, ◌+◌, ◌<◌, ◌≡◌, Bool, eqb}
use Rattle.ground.specs.Units.{million}
use Rattle.records.specs.declared.rows.Constraint.{Constraint}
use Rattle.factors.specs.Factors.{factors_ok}
use Rattle.records.specs.declared.rows.UnitRow.{UnitRow}

-- the same where sizes that make 0 stand for "every CF is 0"
abbrev pub sums_ok : Constraint → ℕ → ℕ → ℕ → Bool
sums_ok r pcf ncf dcf = factors_ok r pcf ncf dcf (eqb (pcf + ncf) 0)

-- what the rule says of a factored constraint: x, y, z are the sums of its units' positive CFs, negative CFs and DCFs, by their sizes
pub record Whole (r : Constraint) (x y z : ℕ) : Type 0 where
  pub pcf : x + r.prcf ≡ million
  pub ncf : y + r.nrcf ≡ million
  pub dcf : z + r.drcf ≡ million

-- and of one in default mode
pub record Plain (r : Constraint) (x y z : ℕ) : Type 0 where
  pub pcf : x ≡ 0
  pub ncf : y ≡ 0
  pub dcf : z + r.drcf ≡ million

-- what the rule says: the place of the constraint that unit row u names
pub record Owner (con : ℕ → Constraint) (n : ℕ) (unit : ℕ → UnitRow) (u : ℕ) : Type 0 where
  pub place : ℕ
  pub within : place < n
  pub same : (con place).id ≡ (unit u).constraint
  pub live : (con place).mode ≡ 0 → ⊥
