-- Check 8: "mode 1: CFs + RCF = 0; negative CFs + min(0, RCF) = -1,000,000. Mode 2: every CF is 0. Modes 1 and 2: DCFs + DRCF = -1,000,000."
-- CF is pcf - ncf and RCF is prcf - nrcf, so CFs + RCF = 0 says that what lies above 0 and what lies below make the same sum.
use Rattle.std.specs.Prelude.{ℕ, ◌+◌, Bool, ◌&&◌, ◌||◌, not, eqb}
use Rattle.ground.specs.Units.{million}
use Rattle.sections.specs.Search.{all}
use Rattle.sections.specs.Total.{total_of}
use Rattle.records.specs.declared.rows.Constraint.{Constraint}
use Rattle.records.specs.declared.rows.UnitRow.{UnitRow}
use Rattle.factors.specs.Naming.{key_of}

-- pcf, ncf and dcf are the sums of the units' positive CFs, their NCFs and their DCFs, by their sizes; none says that every CF is 0
abbrev pub factors_ok : Constraint → ℕ → ℕ → ℕ → Bool → Bool
factors_ok r pcf ncf dcf none =
    eqb r.mode 0
    || (eqb r.mode 1 && eqb (pcf + r.prcf) (ncf + r.nrcf) && eqb (ncf + r.nrcf) million && eqb (dcf + r.drcf) million)
    || (eqb r.mode 2 && none && eqb (dcf + r.drcf) million)

-- the sum of a number over all of the m unit rows that name constraint id
abbrev pub sum_over : (ℕ → UnitRow) → ℕ → ℕ → (UnitRow → ℕ) → ℕ
sum_over unit m id f = total_of (key_of unit) id (λ u. f (unit u)) m

-- every CF of the m unit rows that name constraint id is 0
abbrev pub no_factor : (ℕ → UnitRow) → ℕ → ℕ → Bool
no_factor unit m id = all (λ u. not (eqb (key_of unit u) id) || (eqb (unit u).pcf 0 && eqb (unit u).ncf 0)) m

-- constraint j keeps the rule, with all of the m unit rows that name it
unfoldable pub factors_at : (ℕ → UnitRow) → ℕ → (ℕ → Constraint) → ℕ → Bool
factors_at unit m con j =
    factors_ok (con j)
    (sum_over unit m (con j).id (λ r. r.pcf))
    (sum_over unit m (con j).id (λ r. r.ncf))
    (sum_over unit m (con j).id (λ r. r.dcf))
    (no_factor unit m (con j).id)
