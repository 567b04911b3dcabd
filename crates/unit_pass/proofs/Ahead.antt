-- Where all checks of the unit rows pass, the walk over the constraints says so: rows rise and each has its constraint, so a run takes all
-- rows of its constraint, whose sums keep the rule and so are small. Assumes nothing.
use Prim.Native.Nat.{ℕ, zero, suc, ◌+◌, ◌≤◌, ◌<◌}
use mathlib.Core.Path.{◌≡◌, refl, sym, ◌∙◌}
use mathlib.Core.Bool.{Bool, true, false, not}
use mathlib.Core.Logic.{⊎_elim}
use borrow.Author.Tests.{eqb-true, eq-eqb, not-true, not-false}
use lib.Dec.{eqb}
use native.Mathlib.Omega.{arith}
use native.Mathlib.Nat.{eq-or-lt_of_le}
use Rattle.sections.specs.Inner.Order.{Rises}
use Rattle.sections.proofs.Cases.{same_answer, never_holds, no_yes}
use Rattle.sections.proofs.First.{first_good}
use Rattle.sections.proofs.Order.{rise_keep}
use Rattle.sections.proofs.Search.{lt_or_ge}
use Rattle.sections.proofs.Total.{total_zero, total_rest, keyed_miss}
use Rattle.rules.specs.Inner.Facts.{ConstraintRule}
use Rattle.records.specs.declared.rows.Constraint.{Constraint}
use Rattle.records.specs.declared.rows.UnitRow.{UnitRow}
use Rattle.rules.proofs.Rule.{unit_rules, units_rise}
use Rattle.factors.specs.Naming.{id_of, key_of}
use Rattle.factors.specs.Inner.Facts.{Owner}
use Rattle.factors.specs.Factors.{sum_over}
use Rattle.factors.specs.Inner.Runs.{Factor, plus, minus, default, of_row, of_sums, RunOf}
use Rattle.factors.specs.declared.sums.Sums.{Sums}
use Rattle.factors.proofs.Runs.{of_three, factors_is}
use Rattle.factors.proofs.Said.{owner_of, whole_of, plain_of}
use Rattle.unit_pass.specs.Inner.Holds.{units_hold}
use Rattle.unit_pass.specs.Inner.Units.{Taken, run_holds}
use Rattle.unit_pass.proofs.Said.{UnitsHold, units_say, units_said}
use Rattle.unit_pass.proofs.Turns.{Small, Settled, settled_says, settled_said}
use Rattle.unit_pass.proofs.Walk.{Passed, passed_start, passed_under, passed_more, passed_all}

-- a mode is one of three
by_mode : {A : Type 0} (x : ℕ) → x ≤ 2 → (x ≡ 0 → A) → (x ≡ 1 → A) → (x ≡ 2 → A) → A
by_mode zero l a b c = a refl
by_mode (suc zero) l a b c = b refl
by_mode (suc (suc zero)) l a b c = c refl
by_mode (suc (suc (suc x))) l a b c = absurd (omega arith)

module _ (con : ℕ → Constraint) (n : ℕ) (row : ℕ → UnitRow) (m : ℕ) where
  -- the first j constraints and the rows before place u keep all rules; and where all rows do, none from u on names one of these
  pub record Exactly (j u : ℕ) : Type 0 where
    pub passed : Passed con n row m j u
    pub ahead : UnitsHold con n row m → (i : ℕ) → u ≤ i → i < m → (q : ℕ) → (con q).id ≡ (row i).constraint → j ≤ q

  pub exactly_start : Exactly 0 0
  exactly_start = record { passed = passed_start con n row m; ahead = λ w i a b q e. omega arith }

  module _ (s : Rises (id_of con) n) (j u : ℕ) (l : j < n) (c : ConstraintRule (con j)) (p : Exactly j u) {t : Sums} (h : Taken row m (con j).id u t) where
    module _ (w : UnitsHold con n row m) where
      owner : (i : ℕ) → i < m → Owner con n row i
      owner = owner_of con n row m (first_good _ m w.named)

      -- a row from the cursor on names this constraint or a later one
      over : (i : ℕ) → u ≤ i → i < m → (con j).id ≤ (row i).constraint
      over i a b =
          let o = owner i b in
          rw (← o.same) ((rise_keep (id_of con) n s).keep j o.place (p.ahead w i a b o.place o.same) o.within)

      -- and behind the run a later one
      behind : (i : ℕ) → t.next ≤ i → i < m → (row i).constraint ≡ (con j).id → ⊥
      behind i a b e =
          let v = t.next in
          let in_reach : v < m = omega arith in
          let on = over v h.along.low in_reach in
          let up = (units_rise row m (first_good _ m w.order)).first v i a b in
          let rule = unit_rules row m (first_good _ m w.fields) v in_reach in
          h.ended in_reach (record { same = omega arith; unit = rule.unit; account = rule.account; order = w.order v in_reach })

      -- so the run is all rows of the constraint
      run_of : RunOf row m (con j).id t
      run_of =
          record {
            past = record {
              high = h.along.high;
              under = λ i a. ⊎_elim (λ (b : i < u). omega (arith, passed_under con n row m j u s l refl p.passed i b)) (λ (b : u ≤ i). omega (arith, (h.along.each i b a).same)) (lt_or_ge i u);
              over = λ i a b. ⊎_elim (λ (e : (con j).id ≡ (row i).constraint). absurd (behind i a b (sym e))) (λ (g : (con j).id < (row i).constraint). g) (eq-or-lt_of_le (over i (omega (arith, h.along.low)) b));
            };
            sum = λ c. h.along.sum c ∙ whole c;
          }
        where
          whole : (c : Factor) → sum_over row t.next (con j).id (of_row c) ≡ sum_over row m (con j).id (of_row c)
          whole c = total_rest _ t.next m h.along.high (λ v a b. keyed_miss (key_of row) (con j).id (λ x. of_row c (row x)) v (behind v a b))

      -- a constraint of mode 0 has no row
      no_row : (con j).mode ≡ 0 → t.next ≡ u
      no_row z = ⊎_elim (λ (e : u ≡ t.next). sym e) (λ (a : u < t.next). absurd (named a)) (eq-or-lt_of_le h.along.low)
        where
          named : u < t.next → ⊥
          named a =
              let in_reach : u < m = omega (arith, h.along.high) in
              let o = owner u in_reach in
              let first = p.ahead w u (omega arith) in_reach o.place o.same in
              ⊎_elim
              (λ (e : j ≡ o.place). o.live (rw e at z))
              (λ (g : j < o.place). omega (arith, s.rise j o.place g o.within, o.same, (h.along.each u (omega arith) a).same))
              (eq-or-lt_of_le first)

      small : Small t
      small = by_mode (con j).mode c.mode none whole plain
        where
          none : (con j).mode ≡ 0 → Small t
          none z = record { each = λ c. omega (arith, empty c) }
            where
              empty : (c : Factor) → of_sums c t ≡ 0
              empty c =
                  h.along.sum c ∙ sym (total_zero _ t.next (λ i a. keyed_miss (key_of row) (con j).id (λ x. of_row c (row x)) i
                  (λ (q : (row i).constraint ≡ (con j).id). omega (arith, passed_under con n row m j u s l refl p.passed i (omega (arith, no_row z))))))

          whole : (con j).mode ≡ 1 → Small t
          whole z =
              let g = whole_of row m con n (first_good _ n w.factored) j l z in
              record { each = of_three (λ c. of_sums c t ≤ 1_000_000) (omega (arith, run_of.sum plus, g.pcf)) (omega (arith, run_of.sum minus, g.ncf)) (omega (arith, run_of.sum default, g.dcf)) }

          plain : (con j).mode ≡ 2 → Small t
          plain z =
              let g = plain_of row m con n (first_good _ n w.factored) j l z in
              record { each = of_three (λ c. of_sums c t ≤ 1_000_000) (omega (arith, run_of.sum plus, g.pcf)) (omega (arith, run_of.sum minus, g.ncf)) (omega (arith, run_of.sum default, g.dcf)) }

      -- the constraint keeps its rule with the sums of the run
      settled_there : Settled (con j) t u
      settled_there = record { live = no_row; small = small; sums = factors_is row m con j refl run_of refl ∙ w.factored j l }

    exactly_next : Settled (con j) t u → Exactly (j + 1) t.next
    exactly_next g =
        record {
          passed = passed_more con n row m s j u l c p.passed h g;
          ahead = λ w i a b q e. ⊎_elim (λ (z : j ≡ q). absurd (behind w i a b (rw (← z) at (sym e)))) (λ (z : j < q). omega arith) (eq-or-lt_of_le (p.ahead w i (omega (arith, h.along.low)) b q e));
        }

  module _ (s : Rises (id_of con) n) (rules : (j : ℕ) → j < n → ConstraintRule (con j)) (j u : ℕ) {r : Constraint} {t : Sums} {b : Bool} (l : j < n) (e : r ≡ con j) (p : Exactly j u) (h : Taken row m r.id u t) (q : b ≡ run_holds r t u) where
    -- a constraint that keeps its rule; b is what its test answered
    pub exactly_more : not b ≡ false → Exactly (j + 1) t.next
    exactly_more d = exactly_next s j u l (rules j l) p (rw e at h) (settled_says (con j) t u (rw e at (sym q ∙ not-false b d)))

    -- one that does not: no is right
    pub exactly_no : not b ≡ true → false ≡ units_hold con n row m
    exactly_no d = never_holds _ (λ v. no_yes (rw e at (sym q ∙ not-true b d)) (settled_said (con j) t u (settled_there s j u l (rules j l) p (rw e at h) (units_say con n row m v))))

  -- all constraints passed: yes where all rows were taken
  pub exactly_all : (j u : ℕ) → Exactly j u → j ≡ n → eqb u m ≡ units_hold con n row m
  exactly_all j u p e =
      same_answer _ _
      (λ z. units_said con n row m (passed_all con n row m j u p.passed e (eqb-true u m z)))
      (λ z. eq-eqb u m (taken (units_say con n row m z)))
    where
      taken : UnitsHold con n row m → u ≡ m
      taken w = ⊎_elim (λ (q : u ≡ m). q) (λ (a : u < m). absurd (left a)) (eq-or-lt_of_le p.passed.high)
        where
          left : u < m → ⊥
          left a =
              let o = owner_of con n row m (first_good _ m w.named) u a in
              omega (arith, o.within, p.ahead w u (omega arith) a o.place o.same)
