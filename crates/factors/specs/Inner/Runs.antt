-- The sums over a run of unit rows. Only contracts of inner functions speak of these.
use Rattle.std.specs.Prelude.{ℕ, ◌+◌, ◌-◌, ◌≤◌, ◌<◌, ◌≡◌, Bool, true, false, cond, leb, ltb}
use Rattle.sections.specs.Inner.Order.{Keeps}
use Rattle.sections.specs.Inner.Walk.{Past}
use Rattle.sections.specs.Total.{total}
use Rattle.rules.specs.Inner.Facts.{UnitRule}
use Rattle.records.specs.declared.rows.UnitRow.{UnitRow}
use Rattle.factors.specs.declared.sums.Sums.{Sums}
use Rattle.factors.specs.Naming.{key_of}
use Rattle.factors.specs.Factors.{sum_over}

-- the three factors of a unit row, by their sizes: its CF where that is above 0, its CF where that is below 0, its DCF
pub data Factor : Type 0 where
  plus : Factor
  minus : Factor
  default : Factor

-- the one of a row, and the sum of it
abbrev pub of_row : Factor → UnitRow → ℕ
of_row plus r = r.pcf
of_row minus r = r.ncf
of_row default r = r.dcf

abbrev pub of_sums : Factor → Sums → ℕ
of_sums plus t = t.pcf
of_sums minus t = t.ncf
of_sums default t = t.dcf

-- one row more in the sums
pub record FactorsAdded (t : Sums) (r : UnitRow) (x : Sums) : Type 0 where
  pub next : x.next ≡ t.next + 1
  pub sum : (c : Factor) → of_sums c x ≡ of_sums c t + of_row c r

-- each answer that a test may give of a row, and of the unit of the row before it, is this one
abbrev pub TestsAs : (UnitRow → ℕ → Bool → Type 0) → (UnitRow → ℕ → Bool) → Type 0
TestsAs post test = (r : UnitRow) (last : ℕ) (b : Bool) → post r last b → b ≡ test r last

-- the unit of the row before row u in a run that begins at place `start`: 0 for its first row
unfoldable pub unit_before : (ℕ → UnitRow) → ℕ → ℕ → ℕ
unit_before unit start u = cond (ltb start u) (unit (u - 1)).unit 0

-- a factor's sum over the rows from place `start` up to place n
abbrev pub sum_from : (ℕ → UnitRow) → ℕ → ℕ → Factor → ℕ
sum_from unit start n c = total (λ u. cond (leb start u) (of_row c (unit u)) 0) n

-- the rows from place `start` up to the next belong to the run by the test, the next, if there is one, does not, and the sums are theirs
pub record RunBy (test : UnitRow → ℕ → Bool) (unit : ℕ → UnitRow) (m start : ℕ) (t : Sums) : Type 0 where
  pub low : start ≤ t.next
  pub high : t.next ≤ m
  pub each : (u : ℕ) → start ≤ u → u < t.next → test (unit u) (unit_before unit start u) ≡ true
  pub ended : t.next < m → test (unit t.next) (unit_before unit start t.next) ≡ false
  pub sum : (c : Factor) → of_sums c t ≡ sum_from unit start t.next c

-- the sums over a run are those over all rows, and the run is over
pub record RunOf (unit : ℕ → UnitRow) (m k : ℕ) (x : Sums) : Type 0 where
  pub past : Past (key_of unit) m k x.next
  pub sum : (c : Factor) → of_sums c x ≡ sum_over unit m k (of_row c)

-- what checks 5 and 6 leave for a walk over the unit rows
pub record Walked (unit : ℕ → UnitRow) (m : ℕ) : Type 0 where
  pub few : m ≤ 600
  pub rules : (u : ℕ) → u < m → UnitRule (unit u)
  pub keep : Keeps (key_of unit) m
