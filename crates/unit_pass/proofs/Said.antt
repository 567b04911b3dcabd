-- What it says of each record that the checks of the unit rows pass. Assumes nothing.
use Prim.Native.Nat.{ℕ, ◌<◌}
use mathlib.Core.Path.{◌≡◌}
use mathlib.Core.Bool.{Bool, true}
use mathlib.Core.List.{List, [], ◌∷◌}
use Rattle.ground.proofs.Every as tests
use Rattle.sections.specs.Order.{rises_by}
use Rattle.sections.specs.Search.{all}
use Rattle.sections.proofs.Search.{all_each, all_of_lem}
use Rattle.rules.specs.Rules.{unit_ok, unit_below}
use Rattle.records.specs.declared.rows.Constraint.{Constraint}
use Rattle.records.specs.declared.rows.UnitRow.{UnitRow}
use Rattle.factors.specs.Naming.{named_at}
use Rattle.factors.specs.Factors.{factors_at}
use Rattle.unit_pass.specs.Inner.Holds.{units_hold}

pub record UnitsHold (con : ℕ → Constraint) (n : ℕ) (unit : ℕ → UnitRow) (m : ℕ) : Type 0 where
  pub fields : (u : ℕ) → u < m → unit_ok (unit u) ≡ true
  pub order : (u : ℕ) → u < m → rises_by unit_below unit u ≡ true
  pub named : (u : ℕ) → u < m → named_at con n unit u ≡ true
  pub factored : (j : ℕ) → j < n → factors_at unit m con j ≡ true

module _ (con : ℕ → Constraint) (n : ℕ) (unit : ℕ → UnitRow) (m : ℕ) where
  abbrev unit_tests_lem : List Bool
  unit_tests_lem =
      all (λ u. unit_ok (unit u)) m
      ∷ all (rises_by unit_below unit) m
      ∷ all (named_at con n unit) m
      ∷ all (factors_at unit m con) n
      ∷ []

  pub units_say : units_hold con n unit m ≡ true → UnitsHold con n unit m
  unfolding units_hold
  units_say e =
      let h = tests.every unit_tests_lem e in
      record {
        fields = all_each (λ u. unit_ok (unit u)) m h.0;
        order = all_each (rises_by unit_below unit) m h.1.0;
        named = all_each (named_at con n unit) m h.1.1.0;
        factored = all_each (factors_at unit m con) n h.1.1.1.0;
      }

  pub units_said : UnitsHold con n unit m → units_hold con n unit m ≡ true
  unfolding units_hold
  units_said h =
      tests.all unit_tests_lem
      (all_of_lem (λ u. unit_ok (unit u)) m h.fields, (all_of_lem (rises_by unit_below unit) m h.order, (all_of_lem (named_at con n unit) m h.named, (all_of_lem (factors_at unit m con) n h.factored, tt))))
