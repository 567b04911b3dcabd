-- The walk over the constraints, run after run: what is known of the rows taken so far stays true, and at the end all rows are taken.
-- Assumes nothing.
use Prim.Native.Nat.{ℕ, ◌+◌, ◌≤◌, ◌<◌}
use mathlib.Core.Path.{◌≡◌, sym}
use mathlib.Core.Bool.{true, not, ◌&&◌}
use mathlib.Core.Logic.{⊎_elim}
use borrow.Author.Tests.{le-leb, eq-eqb, ne_eqb}
use borrow.Author.Count.{below_none, below_more}
use lib.Dec.{eqb}
use native.Mathlib.Omega.{arith}
use Rattle.ground.proofs.Every.{all}
use Rattle.sections.specs.Order.{rises_by}
use Rattle.sections.specs.Inner.Order.{Rises}
use Rattle.sections.specs.Search.{some}
use Rattle.sections.specs.Inner.Walk.{Under}
use Rattle.sections.specs.Total.{keyed}
use Rattle.sections.proofs.Search.{some_here, lt_or_ge}
use Rattle.sections.proofs.Total.{total_rest, keyed_hit, keyed_miss, total_has}
use Rattle.rules.specs.Rules.{unit_tests, unit_ok, unit_below}
use Rattle.rules.specs.Inner.Facts.{ConstraintRule}
use Rattle.records.specs.declared.rows.Constraint.{Constraint}
use Rattle.records.specs.declared.rows.UnitRow.{UnitRow}
use Rattle.factors.specs.Naming.{id_of, key_of, named_at}
use Rattle.factors.specs.Inner.Facts.{Owner, sums_ok}
use Rattle.factors.specs.Factors.{sum_over, factors_at}
use Rattle.factors.specs.Inner.Runs.{Factor, plus, minus, default, of_row}
use Rattle.factors.specs.declared.sums.Sums.{Sums}
use Rattle.factors.proofs.Runs.{none_is}
use Rattle.unit_pass.specs.Inner.Units.{Taken}
use Rattle.unit_pass.proofs.Said.{UnitsHold}
use Rattle.unit_pass.proofs.Turns.{Settled}

module _ (con : ℕ → Constraint) (n : ℕ) (row : ℕ → UnitRow) (m : ℕ) where
  -- the first j constraints and the rows before place u keep all rules, where only those rows count
  pub record Passed (j u : ℕ) : Type 0 where
    pub high : u ≤ m
    pub own : (i : ℕ) → i < u → Owner con j row i
    pub fields : (i : ℕ) → i < u → unit_ok (row i) ≡ true
    pub order : (i : ℕ) → i < u → rises_by unit_below row i ≡ true
    pub sums : (i : ℕ) → i < j → sums_ok (con i) (sum_over row u (con i).id (λ r. r.pcf)) (sum_over row u (con i).id (λ r. r.ncf)) (sum_over row u (con i).id (λ r. r.dcf)) ≡ true

  pub passed_start : Passed 0 0
  passed_start =
      record { high = omega arith; own = below_none _; fields = below_none _; order = below_none _; sums = below_none _ }

  -- the rows before the cursor name constraints before the next
  pub passed_under : (j u : ℕ) {r : Constraint} → Rises (id_of con) n → j < n → r ≡ con j → Passed j u → Under (key_of row) u r.id
  passed_under j u s l e p i h =
      let o = p.own i h in
      rw (e, ← o.same) (s.rise o.place j o.within l)

  module _ (s : Rises (id_of con) n) (j u : ℕ) (l : j < n) (c : ConstraintRule (con j)) (p : Passed j u) {t : Sums} (h : Taken row m (con j).id u t) (g : Settled (con j) t u) where
    -- what holds of the rows before the run and of those of the run
    both : (P : ℕ → Type 0) → ((i : ℕ) → i < u → P i) → ((i : ℕ) → u ≤ i → i < t.next → P i) → (i : ℕ) → i < t.next → P i
    both P a b i d = ⊎_elim (λ (x : i < u). a i x) (λ (x : u ≤ i). b i x d) (lt_or_ge i u)

    -- a number of a row in the run is at most the sum
    part : (i : ℕ) → i < t.next → (row i).constraint ≡ (con j).id → (f : Factor) → of_row f (row i) ≤ 1_000_000
    part i d e f =
        let z = total_has (keyed (key_of row) (con j).id (λ v. of_row f (row v))) t.next i d in
        let b = h.along.sum f in
        rw (keyed_hit (key_of row) (con j).id (λ v. of_row f (row v)) i e) (omega (arith, g.small.each f))

    fields_of : (i : ℕ) → u ≤ i → i < t.next → unit_ok (row i) ≡ true
    fields_of i a d =
        let f = h.along.each i a d in
        all (unit_tests (row i)) (
          le-leb 1 (row i).constraint (rw f.same c.id),
          (
            le-leb 1 (row i).unit f.unit,
            (
              le-leb 1 (row i).account f.account,
              (
                le-leb (row i).pcf 1_000_000 (part i d f.same plus),
                (
                  le-leb (row i).ncf 1_000_000 (part i d f.same minus),
                  (le-leb (row i).dcf 1_000_000 (part i d f.same default), tt),
                ),
              ),
            ),
          ),
        )

    own_of : (i : ℕ) → u ≤ i → i < t.next → Owner con (j + 1) row i
    own_of i a d =
        record {
          place = j;
          within = omega arith;
          same = sym (h.along.each i a d).same;
          live = λ (q : (con j).mode ≡ 0). omega (arith, g.live q);
        }

    wider : (i : ℕ) → i < u → Owner con (j + 1) row i
    wider i a = let o = p.own i a in record { place = o.place; within = omega (arith, o.within); same = o.same; live = o.live }

    -- the run adds nothing to the sums of earlier constraints
    kept : (i : ℕ) → i < j → (f : Factor) → sum_over row u (con i).id (of_row f) ≡ sum_over row t.next (con i).id (of_row f)
    kept i a f =
        total_rest _ u t.next h.along.low (λ v b d. keyed_miss (key_of row) (con i).id (λ w. of_row f (row w)) v
        (λ (q : key_of row v ≡ (con i).id). omega (arith, (h.along.each v b d).same, s.rise i j a l)))

    pub passed_more : Passed (j + 1) t.next
    passed_more =
        record {
          high = h.along.high;
          own = both (Owner con (j + 1) row) wider own_of;
          fields = both (λ (i : ℕ). unit_ok (row i) ≡ true) p.fields fields_of;
          order = both (λ (i : ℕ). rises_by unit_below row i ≡ true) p.order (λ i a d. (h.along.each i a d).order);
          sums = below_more _ j
              (λ i a. rw (kept i a plus, kept i a minus, kept i a default) at (p.sums i a))
              (rw (h.along.sum plus, h.along.sum minus, h.along.sum default) at g.sums);
        }

  -- all constraints passed, and all rows taken
  pub passed_all : (j u : ℕ) → Passed j u → j ≡ n → u ≡ m → UnitsHold con n row m
  unfolding named_at factors_at
  passed_all j u q e d =
      let p : Passed n m = rw (e, d) at q in
      record {
        fields = p.fields;
        order = p.order;
        named = λ i l. named i (p.own i l);
        factored = λ i l. rw (none_is row m (con i).id) at (p.sums i l);
      }
    where
      named : (i : ℕ) → Owner con n row i → some (λ k. eqb (id_of con k) (key_of row i) && not (eqb (con k).mode 0)) n ≡ true
      named i o = some_here (λ k. eqb (id_of con k) (key_of row i) && not (eqb (con k).mode 0)) n o.place o.within (rw (eq-eqb (con o.place).id (row i).constraint o.same, ne_eqb (con o.place).mode 0 o.live))
