-- Rows that were summed and entries that have their sums keep checks 5, 6 and 9, and where these pass all rows are summed. Assumes nothing.
use Prim.Native.Nat.{ℕ, ◌≤◌, ◌<◌}
use mathlib.Core.Path.{◌≡◌, refl, sym, ◌∙◌}
use mathlib.Core.Bool.{Bool, true, false}
use native.Mathlib.Omega.{arith}
use Rattle.sections.specs.Search.{all}
use Rattle.sections.specs.Total.{keyed, total_of}
use Rattle.sections.proofs.Cases.{same_answer, never_holds}
use Rattle.sections.proofs.First.{first_good}
use Rattle.sections.proofs.Search.{all_each, all_of_lem}
use Rattle.sections.proofs.Total.{keyed_hit, total_has}
use Rattle.market.specs.declared.Basis.TheVariants.{Ace, Asoe}
use Rattle.rules.specs.Inner.Facts.{EntryRule}
use Rattle.records.specs.declared.rows.Entry.{Entry}
use Rattle.records.specs.declared.rows.EnergyRow.{EnergyRow}
use Rattle.totals.specs.Sums.{region_of, energy_of, entry_is, entry_has_sums}
use Rattle.totals.specs.Inner.Totals.{sum_at}
use Rattle.totals.specs.declared.entries.Totals.{Totals}
use Rattle.totals.proofs.Said.{entry_of}
use Rattle.totals.proofs.Turns.{entry_is_at}
use Rattle.energy_pass.specs.Inner.Holds.{energies_hold}
use Rattle.energy_pass.specs.Inner.Energies.{EachKeeps, AllSummed}
use Rattle.energy_pass.proofs.Said.{EnergiesHold, energies_say, energies_said}
use Rattle.energy_pass.proofs.Rows.{fields_of, from_fields}
use Rattle.energy_pass.proofs.Turns.{RowKeeps, keeps_says, keeps_said}

-- a region's sum is at least each of its rows' numbers
sum_has : (group f : ℕ → ℕ) (n i : ℕ) → i < n → f i ≤ total_of group (group i) f n
sum_has group f n i l = rw (keyed_hit group (group i) f i refl) (total_has (keyed group (group i) f) n i l)

module _ (energy : ℕ → EnergyRow) (n : ℕ) (entry : ℕ → Entry) where
  -- where all checks pass, each row holds
  pub energies_no : (EachKeeps energy n → ⊥) → false ≡ energies_hold energy n entry
  energies_no d =
      never_holds _ (λ e. let h = energies_say energy n entry e in
      d (λ i l. keeps_said energy i (record { fields = from_fields (energy i) (h.fields i l); order = h.order i l })))

  module _ (rules : (g : ℕ) → g < 5 → EntryRule (entry g)) {t : Totals} (s : AllSummed energy n t) where
    kept : (i : ℕ) → i < n → RowKeeps energy i
    kept i l = keeps_says energy i (s.each i l)

    -- the rows hold but for a limit, which the entries of their regions give
    holds : ((g : ℕ) → g < 5 → entry_has_sums energy n entry g ≡ true) → EnergiesHold energy n entry
    holds h =
        record {
          fields = λ i l. let r = (kept i l).fields in
              let b : (energy i).region < 5 = omega (arith, r.region) in
              let sums = entry_of energy n entry (first_good _ 5 h) (energy i).region b in
              let rule = rules (energy i).region b in
              let ace = sum_has (region_of energy) (energy_of Ace energy) n i l in
              let asoe = sum_has (region_of energy) (energy_of Asoe energy) n i l in
              fields_of (energy i) r (omega (arith, sums.each Ace, rule.ace)) (omega (arith, sums.each Asoe, rule.asoe));
          order = λ i l. (kept i l).order;
          sums = h;
        }

    entry_at : (g : ℕ) {b : Bool} → g < 5 → b ≡ entry_is (entry g) (sum_at t g) → b ≡ entry_has_sums energy n entry g
    entry_at g l e = entry_is_at energy n entry g s.sums l refl e

    -- all rows were summed: the answer is what the tests of the five entries say
    pub energies_yes : {b : Bool} → b ≡ all (λ g. entry_is (entry g) (sum_at t g)) 5 → b ≡ energies_hold energy n entry
    energies_yes e =
        e ∙ same_answer _ _
        (λ z. energies_said energy n entry (holds (λ g l. sym (entry_at g l refl) ∙ all_each _ 5 z g l)))
        (λ z. all_of_lem _ 5 (λ g l. entry_at g l refl ∙ (energies_say energy n entry z).sums g l))
