-- What it says of each record that the checks of the energy rows and the region entries pass. Assumes nothing.
use Prim.Native.Nat.{ℕ, ◌<◌}
use mathlib.Core.Path.{◌≡◌}
use mathlib.Core.Bool.{Bool, true}
use mathlib.Core.List.{List, [], ◌∷◌}
use Rattle.ground.proofs.Every as tests
use Rattle.sections.specs.Order.{rises_by}
use Rattle.sections.specs.Search.{all}
use Rattle.sections.proofs.Search.{all_each, all_of_lem}
use Rattle.rules.specs.Rules.{energy_ok, energy_below}
use Rattle.records.specs.declared.rows.Entry.{Entry}
use Rattle.records.specs.declared.rows.EnergyRow.{EnergyRow}
use Rattle.totals.specs.Sums.{entry_has_sums}
use Rattle.energy_pass.specs.Inner.Holds.{energies_hold}

pub record EnergiesHold (energy : ℕ → EnergyRow) (n : ℕ) (entry : ℕ → Entry) : Type 0 where
  pub fields : (i : ℕ) → i < n → energy_ok (energy i) ≡ true
  pub order : (i : ℕ) → i < n → rises_by energy_below energy i ≡ true
  pub sums : (g : ℕ) → g < 5 → entry_has_sums energy n entry g ≡ true

module _ (energy : ℕ → EnergyRow) (n : ℕ) (entry : ℕ → Entry) where
  abbrev energy_tests_lem : List Bool
  energy_tests_lem =
      all (λ i. energy_ok (energy i)) n
      ∷ all (rises_by energy_below energy) n
      ∷ all (entry_has_sums energy n entry) 5
      ∷ []

  pub energies_say : energies_hold energy n entry ≡ true → EnergiesHold energy n entry
  unfolding energies_hold
  energies_say e =
      let h = tests.every energy_tests_lem e in
      record {
        fields = all_each (λ i. energy_ok (energy i)) n h.0;
        order = all_each (rises_by energy_below energy) n h.1.0;
        sums = all_each (entry_has_sums energy n entry) 5 h.1.1.0;
      }

  pub energies_said : EnergiesHold energy n entry → energies_hold energy n entry ≡ true
  unfolding energies_hold
  energies_said h =
      tests.all energy_tests_lem
      (all_of_lem (λ i. energy_ok (energy i)) n h.fields, (all_of_lem (rises_by energy_below energy) n h.order, (all_of_lem (entry_has_sums energy n entry) 5 h.sums, tt)))
