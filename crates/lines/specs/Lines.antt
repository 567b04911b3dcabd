-- Each line of a statement. 01, The statement: "Parts: 1 contingency by ACE, 2 by ASOE; unit lines 3 FPP, 4 used, 5 unused; residual lines
-- 6 FPP, 7 used, 8 unused; 9 contract by ACE, 10 by ASOE." "Regions is the constraint's mask, or for 9 and 10 the one region's bit. Unit is
-- 0 except in parts 3 to 5."
use Rattle.std.specs.Prelude.{ℕ, ◌^◌, cond, List, [], ◌∷◌, eqb}
use Rattle.market.specs.Kinds.{raises}
use Rattle.rules.specs.Rules.{factor_of}
use Rattle.records.specs.declared.rows.Entry.{Entry}
use Rattle.records.specs.declared.rows.Constraint.{Constraint}
use Rattle.records.specs.declared.rows.UnitRow.{UnitRow}
use Rattle.records.specs.declared.rows.Contract.{Contract}
use Rattle.amounts.specs.Pools.{halves_of}
use Rattle.amounts.specs.Shares.{by_factor, by_energy}
use Rattle.amounts.specs.declared.pools.Pools.{Pools}
use Rattle.amounts.specs.declared.pools.Residual.{Residual}
use Rattle.amounts.specs.declared.pools.Halves.{Halves}
use Rattle.statement.specs.declared.Line.{Line}

-- a line that is shared by energy, of a pool that is credit - charge
abbrev pub shared_line : ℕ → ℕ → ℕ → ℕ → ℕ → ℕ → ℕ → Line
shared_line id part regions credit charge own total =
    record { id = id; part = part; regions = regions; unit = 0; amount = by_energy credit charge own total }

-- a unit's line, by a factor that is above - below, of which one is 0
abbrev pub unit_line : Constraint → ℕ → ℕ → UnitRow → ℕ → ℕ → Line
unit_line r part pool q above below =
    record { id = r.id; part = part; regions = r.mask; unit = q.unit; amount = by_factor pool above below }

-- "Contingency: -round(cost x own / total), ASOE for raise, ACE for lower"
abbrev pub contingency_part : Constraint → ℕ
contingency_part r = cond (raises r.service) 2 1

abbrev pub contingency_line : Constraint → ℕ → ℕ → Line
contingency_line r own total = shared_line r.id (contingency_part r) r.mask 0 r.cost own total

-- "Unit lines: round(pool x factor / 1,000,000); FPP by CF, used by min(0, CF), unused by DCF."
abbrev pub fpp_line : Constraint → Pools → UnitRow → Line
fpp_line r p q = unit_line r 3 p.fpp q q.pcf q.ncf

abbrev pub used_line : Constraint → Pools → UnitRow → Line
used_line r p q = unit_line r 4 p.used q 0 q.ncf

abbrev pub unused_line : Constraint → Pools → UnitRow → Line
unused_line r p q = unit_line r 5 p.unused q 0 q.dcf

-- "An account's residual line is round(residual pool x TE / ATE)."
abbrev pub fpp_rest : Constraint → Residual → ℕ → ℕ → Line
fpp_rest r x te ate = shared_line r.id 6 r.mask x.credit x.charge te ate

abbrev pub used_rest : Constraint → Residual → ℕ → ℕ → Line
used_rest r x te ate = shared_line r.id 7 r.mask 0 x.used te ate

abbrev pub unused_rest : Constraint → Residual → ℕ → ℕ → Line
unused_rest r x te ate = shared_line r.id 8 r.mask 0 x.unused te ate

-- "The account's two lines are -round(half x own / region total), by ACE and ASOE."
abbrev pub ace_line : ℕ → ℕ → Halves → ℕ → ℕ → Line
ace_line id g x own total = shared_line id 9 (2 ^ g) 0 x.consumed own total

abbrev pub asoe_line : ℕ → ℕ → Halves → ℕ → ℕ → Line
asoe_line id g x own total = shared_line id 10 (2 ^ g) 0 x.sent own total

-- ---- the lines of one unit row, of a constraint's residual, of a contract in one region

-- "own units in row order (3, 4, 5; mode 2 only 5)"
unfoldable pub unit_lines : Constraint → Pools → UnitRow → List Line
unit_lines r p q = cond (eqb r.mode 1) (fpp_line r p q ∷ used_line r p q ∷ unused_line r p q ∷ []) (unused_line r p q ∷ [])

-- "then 6, 7, 8 (mode 2 only 8)"
unfoldable pub rest_lines : Constraint → Residual → ℕ → ℕ → List Line
rest_lines r x te ate = cond (eqb r.mode 1) (fpp_rest r x te ate ∷ used_rest r x te ate ∷ unused_rest r x te ate ∷ []) (unused_rest r x te ate ∷ [])

-- a contract's lines in region g: "each region with a benefit factor above 0"
unfoldable pub region_lines : (ℕ → Entry) → (ℕ → Entry) → Contract → ℕ → List Line
region_lines entry own k g =
    cond (eqb (factor_of k.factors g) 0) []
    (ace_line k.id g (halves_of k.payment (factor_of k.factors g)) (own g).ace (entry g).ace
    ∷ asoe_line k.id g (halves_of k.payment (factor_of k.factors g)) (own g).asoe (entry g).asoe
    ∷ [])
