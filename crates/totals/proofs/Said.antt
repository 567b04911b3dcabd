-- What checks 9 and 10 say where they refuse nothing. Assumes nothing.
use Prim.Native.Nat.{ℕ, ◌<◌}
use mathlib.Core.Path.{◌≡◌}
use mathlib.Core.Bool.{true, not}
use mathlib.Core.List.{[], ◌∷◌}
use mathlib.Core.Logic.{⊎_elim}
use borrow.Author.Tests.{eqb-true, eqb-false, not-true, ne_eqb}
use lib.Dec.{eqb}
use native.Mathlib.Nat.{eq-zero-or-pos}
use Rattle.ground.proofs.Every.{every}
use Rattle.sections.specs.First.{first_bad}
use Rattle.std.specs.Prelude.{None}
use Rattle.sections.proofs.First.{first_each}
use Rattle.sections.proofs.Search.{all_each}
use Rattle.market.specs.declared.Basis.{Basis}
use Rattle.market.specs.declared.Basis.TheVariants.{Ace, Asoe, Residual}
use Rattle.market.proofs.Bases.{each_basis}
use Rattle.rules.specs.Rules.{factor_of}
use Rattle.records.specs.declared.rows.Entry.{Entry}
use Rattle.records.specs.declared.rows.Constraint.{Constraint}
use Rattle.records.specs.declared.rows.EnergyRow.{EnergyRow}
use Rattle.records.specs.declared.rows.Contract.{Contract}
use Rattle.totals.specs.Sums.{entry_by, sum_in, sum_tests, entry_is, entry_has_sums}
use Rattle.totals.specs.Inner.Facts.{SumsTo, Funded}
use Rattle.totals.specs.Divisors.{over_regions, constraint_divides, funded_in, contract_divides}

-- ---- check 9

sums_to : (e : Entry) (sum : Basis → ℕ) → entry_is e sum ≡ true → SumsTo e sum
sums_to e sum q =
    let h = every (sum_tests e sum) q in
    record {
      each = each_basis (λ b. entry_by b e ≡ sum b) (eqb-true e.ace (sum Ace) h.0) (eqb-true e.asoe (sum Asoe) h.1.0) (eqb-true e.residual (sum Residual) h.1.1.0);
    }

pub entry_of : (energy : ℕ → EnergyRow) (n : ℕ) (entry : ℕ → Entry) → first_bad (entry_has_sums energy n entry) 5 ≡ None → (g : ℕ) → g < 5 → SumsTo (entry g) (sum_in energy n g)
unfolding entry_has_sums
entry_of energy n entry k g l = sums_to (entry g) (sum_in energy n g) (first_each (entry_has_sums energy n entry) 5 k g l)

-- ---- check 10

above : (n : ℕ) → not (eqb n 0) ≡ true → 0 < n
above n h = ⊎_elim (λ (e : n ≡ 0). absurd (eqb-false n 0 (not-true (eqb n 0) h) e)) (λ q. q) (eq-zero-or-pos n)

pub divisor_of : (entry : ℕ → Entry) (con : ℕ → Constraint) (n : ℕ) → first_bad (constraint_divides entry con) n ≡ None → (j : ℕ) → j < n → 0 < over_regions entry (con j)
unfolding constraint_divides
divisor_of entry con n k j l = above (over_regions entry (con j)) (first_each (constraint_divides entry con) n k j l)

funded : (entry : ℕ → Entry) (f g : ℕ) → (f ≡ 0 → ⊥) → funded_in entry f g ≡ true → Funded (entry g)
funded entry f g d e =
    let h = every (not (eqb (entry g).ace 0) ∷ not (eqb (entry g).asoe 0) ∷ []) (rw (ne_eqb f 0 d) at e) in
    record { ace = above (entry g).ace h.0; asoe = above (entry g).asoe h.1.0 }

-- entry k g is region g's in the book that settles contract k
pub funded_of : (entry : ℕ → ℕ → Entry) (contract : ℕ → Contract) (n : ℕ) → first_bad (λ k. contract_divides (entry k) contract k) n ≡ None → (k : ℕ) → k < n → (g : ℕ) → g < 5 → (factor_of (contract k).factors g ≡ 0 → ⊥) → Funded (entry k g)
unfolding contract_divides
funded_of entry contract n h k l g m d =
    funded (entry k) (factor_of (contract k).factors g) g d
    (all_each (λ g. funded_in (entry k) (factor_of (contract k).factors g) g) 5 (first_each (λ k. contract_divides (entry k) contract k) n h k l) g m)
