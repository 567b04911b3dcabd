-- What checks 5 and 6 say where they refuse nothing: each record's rule, and each section's order. Assumes nothing.
use Prim.Native.Nat.{ℕ, suc, ◌*◌, ◌≤◌, ◌<◌}
use mathlib.Core.List.{[], ◌∷◌}
use mathlib.Core.Path.{◌≡◌, refl}
use mathlib.Core.Bool.{Bool, true, false, ◌&&◌, ◌||◌, not}
use mathlib.Core.Logic.{◌⊎◌, inl, inr, ⊎_elim}
use borrow.Author.Tests.{leb-true, leb-false, eqb-true, ltb-true, not-true}
use lib.Dec.{eqb, leb}
use native.Mathlib.Omega.{arith}
use Rattle.ground.proofs.Every.{every}
use Rattle.sections.specs.First.{first_bad}
use Rattle.sections.specs.Order.{rises_by}
use Rattle.sections.specs.Inner.Order.{Rises, PairsRise}
use Rattle.sections.specs.Search.{all}
use Rattle.sections.specs.Total.{total}
use Rattle.std.specs.Prelude.{None}
use Rattle.sections.proofs.First.{first_each}
use Rattle.sections.proofs.Search.{all_each}
use Rattle.sections.proofs.Order.{rises, rises_step, pairs_rise}
use Rattle.market.specs.Kinds.{regulates, mode_with}
use Rattle.rules.specs.Rules.{entry_tests, entry_ok, mode_of, terms_ok, no_terms, mode_fits, constraint_tests, constraint_ok, unit_tests, unit_ok, energy_tests, energy_ok, factor_of, shares_ok, contract_tests, contract_ok, constraint_below, unit_below, energy_below, contract_below}
use Rattle.rules.specs.Inner.Facts.{EntryRule, Bare, Terms, ConstraintRule, UnitRule, EnergyRule, ContractRule}
use Rattle.records.specs.declared.rows.Entry.{Entry}
use Rattle.records.specs.declared.rows.Constraint.{Constraint}
use Rattle.records.specs.declared.rows.UnitRow.{UnitRow}
use Rattle.records.specs.declared.rows.EnergyRow.{EnergyRow}
use Rattle.records.specs.declared.rows.Contract.{Contract}

-- ---- each record's rule

entry_rule : (r : Entry) → entry_ok r ≡ true → EntryRule r
entry_rule r e =
    let h = every (entry_tests r) e in
    record {
      ace = leb-true r.ace 20_000_000 h.0;
      asoe = leb-true r.asoe 20_000_000 h.1.0;
      residual = leb-true r.residual 20_000_000 h.1.1.0;
    }

either : (a b : Bool) → (a || b) ≡ true → (a ≡ true) ⊎ (b ≡ true)
either true b e = inl refl
either false b e = inr e

bare_of : (r : Constraint) → no_terms r ≡ true → Bare r
bare_of r e =
    let h = every (eqb r.price 0 ∷ eqb r.rcr 0 ∷ eqb r.usage 0 ∷ eqb r.prcf 0 ∷ eqb r.nrcf 0 ∷ []) e in
    record {
      price = eqb-true r.price 0 h.0;
      rcr = eqb-true r.rcr 0 h.1.0;
      usage = eqb-true r.usage 0 h.1.1.0;
      prcf = eqb-true r.prcf 0 h.1.1.1.0;
      nrcf = eqb-true r.nrcf 0 h.1.1.1.1.0;
    }

bare_terms : (r : Constraint) → Bare r → Terms r
bare_terms r h =
    record { price = omega (arith, h.price); rcr = omega (arith, h.rcr); usage = omega (arith, h.usage); product = rw h.price (omega arith) }

factored_terms : (r : Constraint) → r.mode ≡ 1 → terms_ok (mode_of r) ≡ true → Terms r
unfolding terms_ok mode_with
factored_terms r m e =
    let h = every (leb r.price 2_500_000 ∷ leb r.rcr 10_000_000 ∷ leb r.usage 1_000_000 ∷ leb (r.price * r.rcr) 6_000_000_000_000 ∷ []) (rw m at e) in
    record {
      price = leb-true r.price 2_500_000 h.0;
      rcr = leb-true r.rcr 10_000_000 h.1.0;
      usage = leb-true r.usage 1_000_000 h.1.1.0;
      product = leb-true (r.price * r.rcr) 6_000_000_000_000 h.1.1.1.0;
    }

-- what the mode asks, in each of the three modes
record ModeRule (r : Constraint) : Type 0 where
  mode : r.mode ≤ 2
  terms : Terms r
  contingency : r.mode ≡ 0 → r.service ≤ 8
  regulation : (r.mode ≡ 0 → ⊥) → 9 ≤ r.service
  bare : (r.mode ≡ 1 → ⊥) → Bare r

mode_rule : (r : Constraint) → terms_ok (mode_of r) ≡ true → mode_fits r ≡ true → ModeRule r
unfolding mode_fits
mode_rule r t e = ⊎_elim (λ h. ⊎_elim mode0 mode1 (either _ _ h)) mode2 (either _ _ e)
  where
    mode0 : (eqb r.mode 0 && not (regulates r.service) && no_terms r && eqb r.drcf 0) ≡ true → ModeRule r
    mode0 e =
        let h = every (eqb r.mode 0 ∷ not (regulates r.service) ∷ no_terms r ∷ eqb r.drcf 0 ∷ []) e in
        let m = eqb-true r.mode 0 h.0 in
        let s = leb-false 9 r.service (not-true _ h.1.0) in
        let b = bare_of r h.1.1.0 in
        record { mode = omega arith; terms = bare_terms r b; contingency = λ _. omega arith; regulation = λ no. absurd (no m); bare = λ _. b }

    mode1 : (eqb r.mode 1 && regulates r.service) ≡ true → ModeRule r
    mode1 e =
        let h = every (eqb r.mode 1 ∷ regulates r.service ∷ []) e in
        let m = eqb-true r.mode 1 h.0 in
        let s = leb-true 9 r.service h.1.0 in
        record { mode = omega arith; terms = factored_terms r m t; contingency = λ (q : r.mode ≡ 0). omega arith; regulation = λ _. s; bare = λ no. absurd (no m) }

    mode2 : (eqb r.mode 2 && regulates r.service && no_terms r) ≡ true → ModeRule r
    mode2 e =
        let h = every (eqb r.mode 2 ∷ regulates r.service ∷ no_terms r ∷ []) e in
        let m = eqb-true r.mode 2 h.0 in
        let s = leb-true 9 r.service h.1.0 in
        let b = bare_of r h.1.1.0 in
        record { mode = omega arith; terms = bare_terms r b; contingency = λ (q : r.mode ≡ 0). omega arith; regulation = λ _. s; bare = λ _. b }

constraint_rule : (r : Constraint) → constraint_ok r ≡ true → ConstraintRule r
constraint_rule r e =
    let h = every (constraint_tests r) e in
    let s = every (leb 1 r.service ∷ leb r.service 10 ∷ []) h.1.0 in
    let m = mode_rule r h.1.1.1.1.1.1.1.1.1.1.0 h.1.1.1.1.1.1.1.1.1.1.1.0 in
    record {
      id = leb-true 1 r.id h.0;
      service_low = leb-true 1 r.service s.0;
      service_high = leb-true r.service 10 s.1.0;
      mask_low = leb-true 1 r.mask h.1.1.0;
      mask_high = leb-true r.mask 31 h.1.1.1.0;
      mode = m.mode;
      cost = leb-true r.cost 50_000_000_000 h.1.1.1.1.1.0;
      prcf = leb-true r.prcf 1_000_000 h.1.1.1.1.1.1.0;
      nrcf = leb-true r.nrcf 1_000_000 h.1.1.1.1.1.1.1.0;
      drcf = leb-true r.drcf 1_000_000 h.1.1.1.1.1.1.1.1.0;
      terms = m.terms;
      contingency = m.contingency;
      regulation = m.regulation;
      bare = m.bare;
    }

unit_rule : (r : UnitRow) → unit_ok r ≡ true → UnitRule r
unit_rule r e =
    let h = every (unit_tests r) e in
    record {
      constraint = leb-true 1 r.constraint h.0;
      unit = leb-true 1 r.unit h.1.0;
      account = leb-true 1 r.account h.1.1.0;
      pcf = leb-true r.pcf 1_000_000 h.1.1.1.0;
      ncf = leb-true r.ncf 1_000_000 h.1.1.1.1.0;
      dcf = leb-true r.dcf 1_000_000 h.1.1.1.1.1.0;
    }

energy_rule : (r : EnergyRow) → energy_ok r ≡ true → EnergyRule r
energy_rule r e =
    let h = every (energy_tests r) e in
    record {
      account = leb-true 1 r.account h.0;
      region = leb-true r.region 4 h.1.0;
      ace = leb-true r.ace 20_000_000 h.1.1.1.0;
      asoe = leb-true r.asoe 20_000_000 h.1.1.1.1.0;
      race = leb-true r.race r.ace h.1.1.1.1.1.0;
      rasoe = leb-true r.rasoe r.asoe h.1.1.1.1.1.1.0;
    }

contract_rule : (r : Contract) → contract_ok r ≡ true → ContractRule r
unfolding shares_ok
contract_rule r e =
    let h = every (contract_tests r) e in
    let s = every (all (λ g. leb (factor_of r.factors g) 1_000_000) 5 ∷ eqb (total (factor_of r.factors) 5) 1_000_000 ∷ []) h.1.1.1.1.1.0 in
    record {
      id = leb-true 1 r.id h.0;
      kind_low = leb-true 1 r.kind h.1.0;
      kind_high = leb-true r.kind 2 h.1.1.0;
      payment = leb-true r.payment 50_000_000_000 h.1.1.1.1.0;
      factor = λ g l. leb-true (factor_of r.factors g) 1_000_000 (all_each (λ g. leb (factor_of r.factors g) 1_000_000) 5 s.0 g l);
      whole = eqb-true (total (factor_of r.factors) 5) 1_000_000 s.1.0;
    }

-- ---- a section without a refused record keeps the rule at each; row i is its record i

pub entry_rules : (row : ℕ → Entry) (n : ℕ) → first_bad (λ i. entry_ok (row i)) n ≡ None → (i : ℕ) → i < n → EntryRule (row i)
entry_rules row n g i l = entry_rule (row i) (first_each (λ i. entry_ok (row i)) n g i l)

pub constraint_rules : (row : ℕ → Constraint) (n : ℕ) → first_bad (λ i. constraint_ok (row i)) n ≡ None → (i : ℕ) → i < n → ConstraintRule (row i)
constraint_rules row n g i l = constraint_rule (row i) (first_each (λ i. constraint_ok (row i)) n g i l)

pub unit_rules : (row : ℕ → UnitRow) (n : ℕ) → first_bad (λ i. unit_ok (row i)) n ≡ None → (i : ℕ) → i < n → UnitRule (row i)
unit_rules row n g i l = unit_rule (row i) (first_each (λ i. unit_ok (row i)) n g i l)

pub energy_rules : (row : ℕ → EnergyRow) (n : ℕ) → first_bad (λ i. energy_ok (row i)) n ≡ None → (i : ℕ) → i < n → EnergyRule (row i)
energy_rules row n g i l = energy_rule (row i) (first_each (λ i. energy_ok (row i)) n g i l)

pub contract_rules : (row : ℕ → Contract) (n : ℕ) → first_bad (λ i. contract_ok (row i)) n ≡ None → (i : ℕ) → i < n → ContractRule (row i)
contract_rules row n g i l = contract_rule (row i) (first_each (λ i. contract_ok (row i)) n g i l)

-- ---- and a section in order rises

pub constraints_rise : (row : ℕ → Constraint) (n : ℕ) → first_bad (rises_by constraint_below row) n ≡ None → Rises (λ i. (row i).id) n
constraints_rise row n g = rises _ n (λ k l. ltb-true _ _ (rises_step constraint_below row k (first_each (rises_by constraint_below row) n g (suc k) l)))

pub contracts_rise : (row : ℕ → Contract) (n : ℕ) → first_bad (rises_by contract_below row) n ≡ None → Rises (λ i. (row i).id) n
contracts_rise row n g = rises _ n (λ k l. ltb-true _ _ (rises_step contract_below row k (first_each (rises_by contract_below row) n g (suc k) l)))

pub units_rise : (row : ℕ → UnitRow) (n : ℕ) → first_bad (rises_by unit_below row) n ≡ None → PairsRise (λ i. (row i).constraint) (λ i. (row i).unit) n
units_rise row n g = pairs_rise _ _ n (λ k l. rises_step unit_below row k (first_each (rises_by unit_below row) n g (suc k) l))

pub energies_rise : (row : ℕ → EnergyRow) (n : ℕ) → first_bad (rises_by energy_below row) n ≡ None → PairsRise (λ i. (row i).account) (λ i. (row i).region) n
energies_rise row n g = pairs_rise _ _ n (λ k l. rises_step energy_below row k (first_each (rises_by energy_below row) n g (suc k) l))
