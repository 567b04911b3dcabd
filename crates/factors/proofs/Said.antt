-- What checks 7 and 8 say where they refuse nothing. Assumes nothing.
use Prim.Native.Nat.{ℕ, ◌+◌, ◌<◌}
use mathlib.Core.List.{[], ◌∷◌}
use mathlib.Core.Path.{◌≡◌, refl, ◌∙◌}
use mathlib.Core.Bool.{Bool, true, false, ◌&&◌, ◌||◌, not}
use borrow.Author.Tests.{eqb-true, eqb-false, not-true}
use lib.Dec.{eqb}
use native.Mathlib.Omega.{arith}
use Rattle.ground.proofs.Every.{every}
use Rattle.sections.specs.First.{first_bad}
use Rattle.sections.specs.Inner.Walk.{Names}
use Rattle.std.specs.Prelude.{None}
use Rattle.sections.proofs.First.{first_each}
use Rattle.sections.proofs.Search.{some_found}
use Rattle.records.specs.declared.rows.Constraint.{Constraint}
use Rattle.records.specs.declared.rows.UnitRow.{UnitRow}
use Rattle.factors.specs.Naming.{id_of, key_of, named_at}
use Rattle.factors.specs.Inner.Facts.{Owner, Whole, Plain}
use Rattle.factors.specs.Factors.{factors_ok, factors_at, sum_over, no_factor}
use Rattle.factors.proofs.Runs.{none_is}

-- ---- check 7

module _ (con : ℕ → Constraint) (n : ℕ) (unit : ℕ → UnitRow) (m : ℕ) where
  pub owner_of : first_bad (named_at con n unit) m ≡ None → (u : ℕ) → u < m → Owner con n unit u
  unfolding named_at
  owner_of g u l =
      let f = some_found (λ j. eqb (id_of con j) (key_of unit u) && not (eqb (con j).mode 0)) n (first_each (named_at con n unit) m g u l) in
      let j = f.place in
      let h = every (eqb (id_of con j) (key_of unit u) ∷ not (eqb (con j).mode 0) ∷ []) f.passes in
      record {
        place = j;
        within = f.within;
        same = eqb-true (id_of con j) (key_of unit u) h.0;
        live = eqb-false (con j).mode 0 (not-true (eqb (con j).mode 0) h.1.0);
      }

  -- so each row's constraint is there, which the walk of check 8 needs
  pub names_of : ((u : ℕ) → u < m → Owner con n unit u) → Names (key_of unit) m (id_of con) n
  names_of f = record { place = λ u l. (f u l).place; within = λ u l. (f u l).within; same = λ u l. (f u l).same }

-- ---- check 8

or_none : (a : Bool) → (a || false) ≡ true → a ≡ true
or_none true e = refl
or_none false e = e

whole : (r : Constraint) (pcf ncf dcf : ℕ) (none : Bool) → r.mode ≡ 1 → factors_ok r pcf ncf dcf none ≡ true → Whole r pcf ncf dcf
whole r pcf ncf dcf none m e =
    let h =
    every (eqb (pcf + r.prcf) (ncf + r.nrcf) ∷ eqb (ncf + r.nrcf) 1_000_000 ∷ eqb (dcf + r.drcf) 1_000_000 ∷ [])
    (or_none _ (rw m at e))
    in
    let b = eqb-true (ncf + r.nrcf) 1_000_000 h.1.0 in
    record {
      pcf = eqb-true (pcf + r.prcf) (ncf + r.nrcf) h.0 ∙ b;
      ncf = b;
      dcf = eqb-true (dcf + r.drcf) 1_000_000 h.1.1.0;
    }

plain : (r : Constraint) (pcf ncf dcf : ℕ) (none : Bool) → eqb (pcf + ncf) 0 ≡ none → r.mode ≡ 2 → factors_ok r pcf ncf dcf none ≡ true → Plain r pcf ncf dcf
plain r pcf ncf dcf none z m e =
    let h = every (none ∷ eqb (dcf + r.drcf) 1_000_000 ∷ []) (rw m at e) in
    let s = eqb-true (pcf + ncf) 0 (z ∙ h.0) in
    record { pcf = omega arith; ncf = omega arith; dcf = eqb-true (dcf + r.drcf) 1_000_000 h.1.0 }

module _ (unit : ℕ → UnitRow) (m : ℕ) (con : ℕ → Constraint) (n : ℕ) (g : first_bad (factors_at unit m con) n ≡ None) (j : ℕ) (l : j < n) where
  pub whole_of : (con j).mode ≡ 1 → Whole (con j) (sum_over unit m (con j).id (λ r. r.pcf)) (sum_over unit m (con j).id (λ r. r.ncf)) (sum_over unit m (con j).id (λ r. r.dcf))
  unfolding factors_at
  whole_of q = whole (con j) _ _ _ _ q (first_each (factors_at unit m con) n g j l)

  pub plain_of : (con j).mode ≡ 2 → Plain (con j) (sum_over unit m (con j).id (λ r. r.pcf)) (sum_over unit m (con j).id (λ r. r.ncf)) (sum_over unit m (con j).id (λ r. r.dcf))
  unfolding factors_at
  plain_of q = plain (con j) _ _ _ (no_factor unit m (con j).id) (none_is unit m (con j).id) q (first_each (factors_at unit m con) n g j l)
