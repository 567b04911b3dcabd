-- The rows that a run over the unit rows takes, and the test of its sums. Only contracts of inner functions speak of these.
use Rattle.std.specs.Prelude.{ℕ, ◌≤◌, ◌<◌, ◌≡◌, Bool, true, ◌&&◌, ◌||◌, not, eqb, leb, ltb}
use Rattle.ground.specs.Units.{million}
use Rattle.sections.specs.Order.{rises_by}
use Rattle.rules.specs.Rules.{unit_below}
use Rattle.records.specs.declared.rows.Constraint.{Constraint}
use Rattle.records.specs.declared.rows.UnitRow.{UnitRow}
use Rattle.factors.specs.Factors.{sum_over}
use Rattle.factors.specs.Inner.Facts.{sums_ok}
use Rattle.factors.specs.Inner.Runs.{Factor, of_row, of_sums}
use Rattle.factors.specs.declared.sums.Sums.{Sums}

-- a row of constraint k above a row of unit `last`, with an account
abbrev pub follows : UnitRow → ℕ → ℕ → Bool
follows r k last = eqb r.constraint k && ltb last r.unit && leb 1 r.account

-- row i belongs to the run of constraint k: it names k, has a unit and an account, and is above the row before it
pub record Followed (row : ℕ → UnitRow) (k i : ℕ) : Type 0 where
  pub same : (row i).constraint ≡ k
  pub unit : 1 ≤ (row i).unit
  pub account : 1 ≤ (row i).account
  pub order : rises_by unit_below row i ≡ true

-- the rows from place `start` up to the next belong to the run, and the sums are those over the rows of k so far
pub record Along (row : ℕ → UnitRow) (m k start : ℕ) (t : Sums) : Type 0 where
  pub low : start ≤ t.next
  pub high : t.next ≤ m
  pub each : (i : ℕ) → start ≤ i → i < t.next → Followed row k i
  pub sum : (c : Factor) → of_sums c t ≡ sum_over row t.next k (of_row c)

-- and the next row, if there is one, does not: the run was taken to its end
pub record Taken (row : ℕ → UnitRow) (m k start : ℕ) (t : Sums) : Type 0 where
  pub along : Along row m k start t
  pub ended : t.next < m → Followed row k t.next → ⊥

-- no sum is above 1,000,000
abbrev pub small_sums : Sums → Bool
small_sums t = leb t.pcf million && leb t.ncf million && leb t.dcf million

-- constraint r keeps its rule with the sums of its run, which began at place `start`, and has no row if it is of mode 0
abbrev pub run_holds : Constraint → Sums → ℕ → Bool
run_holds r t start =
    small_sums t && ((not (eqb r.mode 0) || eqb t.next start) && sums_ok r t.pcf t.ncf t.dcf)
