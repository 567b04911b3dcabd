-- The sums over a run of unit rows, turn by turn. Assumes nothing.
use Prim.Native.Nat.{ℕ, ◌+◌, ◌-◌, ◌≤◌, ◌<◌}
use mathlib.Core.Path.{◌≡◌, refl, sym, ap, ◌∙◌}
use mathlib.Core.Bool.{Bool, true, false, cond, not, ◌&&◌, ◌||◌}
use borrow.Author.Count.{below_more}
use lib.Dec.{eqb}
use native.Mathlib.Omega.{arith}
use mathlib.Core.Logic.{⊎_elim}
use borrow.Author.Tests.{eqb-true, eqb-false, le-ltb, lt-ltb, le-leb, lt-leb}
use Rattle.sections.specs.Inner.Walk.{Stands, Past}
use Rattle.sections.specs.Total.{keyed}
use Rattle.sections.proofs.Cases.{no_yes}
use Rattle.sections.proofs.Walk.{Run, run_stop, run_done, sum_past}
use Rattle.sections.proofs.Total.{total_more, total_zero, total_same, total_bound, total_nil, sum_nil, keyed_hit, keyed_miss, keyed_le, keyed_plus}
use Rattle.sections.proofs.Search.{all_same, lt_or_ge}
use Rattle.records.specs.declared.rows.Constraint.{Constraint}
use Rattle.records.specs.declared.rows.UnitRow.{UnitRow}
use Rattle.factors.specs.Naming.{key_of}
use Rattle.factors.specs.Factors.{factors_at, sum_over, no_factor}
use Rattle.factors.specs.Inner.Facts.{sums_ok}
use Rattle.factors.specs.Inner.Runs.{Factor, plus, minus, default, of_row, of_sums, FactorsAdded, unit_before, sum_from, RunBy, RunOf, Walked}
use Rattle.factors.specs.declared.sums.Sums.{Sums}
use Rattle.rules.specs.Inner.Facts.{UnitRule}

-- ---- the three factors

-- what holds of all three holds of each
pub of_three : (P : Factor → Type 0) → P plus → P minus → P default → (c : Factor) → P c
of_three P p q d plus = p
of_three P p q d minus = q
of_three P p q d default = d

-- sums are the same where the cursor and each factor's are
pub same_sums : (t x : Sums) → t.next ≡ x.next → ((c : Factor) → of_sums c t ≡ of_sums c x) → t ≡ x
same_sums t x e f = λ j. record { next = e j; pcf = f plus j; ncf = f minus j; dcf = f default j }

-- nothing is summed at the start
pub none_summed : (u : ℕ) (c : Factor) → of_sums c (record { next = u; pcf = 0; ncf = 0; dcf = 0 }) ≡ 0
none_summed u = of_three (λ c. of_sums c (record { next = u; pcf = 0; ncf = 0; dcf = 0 }) ≡ 0) refl refl refl

-- a row that keeps its rule has small ones
row_small : (r : UnitRow) → UnitRule r → (c : Factor) → of_row c r ≤ 1_000_000
row_small r h = of_three (λ c. of_row c r ≤ 1_000_000) h.pcf h.ncf h.dcf

-- one row more, factor by factor
pub added : {t x : Sums} {r : UnitRow} → x.next ≡ t.next + 1 → x.pcf ≡ t.pcf + r.pcf → x.ncf ≡ t.ncf + r.ncf → x.dcf ≡ t.dcf + r.dcf → FactorsAdded t r x
added {t} {x} {r} n p q d = record { next = n; sum = of_three (λ c. of_sums c x ≡ of_sums c t + of_row c r) p q d }

-- no second sums are those with one row more
pub added_once : (t : Sums) (r : UnitRow) (x y : Sums) → FactorsAdded t r x → FactorsAdded t r y → x ≡ y
added_once t r x y a b = same_sums x y (a.next ∙ sym b.next) (λ c. a.sum c ∙ sym (b.sum c))

-- ---- a run, turn by turn

module _ (unit : ℕ → UnitRow) (start : ℕ) where
  -- the row before: none before the first, and then the last
  pub before_first : (u : ℕ) → u ≤ start → 0 ≡ unit_before unit start u
  unfolding unit_before
  before_first u l = rw (le-ltb start u l)

  pub before_more : (u i : ℕ) {x : ℕ} → start ≤ i → i + 1 ≡ u → x ≡ (unit i).unit → x ≡ unit_before unit start u
  unfolding unit_before
  before_more u i l q e = let back : u - 1 ≡ i = omega arith in rw (lt-ltb start u (omega arith), back) e

  -- nothing is summed at the start, and then one row more
  pub from_none : (c : Factor) → of_sums c (record { next = start; pcf = 0; ncf = 0; dcf = 0 }) ≡ sum_from unit start start c
  from_none c = none_summed start c ∙ total_zero _ start (λ u l. rw (lt-leb start u l))

  pub from_more : (u : ℕ) (c : Factor) {t x : Sums} {r : UnitRow} → of_sums c t ≡ sum_from unit start u c → start ≤ u → r ≡ unit u → FactorsAdded t r x → of_sums c x ≡ sum_from unit start (u + 1) c
  from_more u c h l e a = a.sum c ∙ total_more _ u h (rw (le-leb start u l) (ap (of_row c) e))

  module _ (test : UnitRow → ℕ → Bool) where
    -- no row belongs to the run before the first is tested, and then one row more does; b is what the test answered
    pub each_none : (v : ℕ) → start ≤ v → v < start → test (unit v) (unit_before unit start v) ≡ true
    each_none v a b = absurd (none v a b)
      where
        none : (v : ℕ) → start ≤ v → v < start → ⊥
        none v a b = omega arith

    pub each_more : (u : ℕ) {last : ℕ} {r : UnitRow} {b : Bool} → ((v : ℕ) → start ≤ v → v < u → test (unit v) (unit_before unit start v) ≡ true) → r ≡ unit u → last ≡ unit_before unit start u → b ≡ test r last → b ≡ true → (v : ℕ) → start ≤ v → v < u + 1 → test (unit v) (unit_before unit start v) ≡ true
    each_more u e p q f t v a l = below_more (λ (v : ℕ). start ≤ v → test (unit v) (unit_before unit start v) ≡ true) u (λ i y z. e i z y) (λ _. rw (← p, ← q) (sym f ∙ t)) v l a

    -- the end: the next row does not belong to the run, or there is none
    pub run_ended : (m : ℕ) {t : Sums} {u : ℕ} → t.next ≡ u → ((c : Factor) → of_sums c t ≡ sum_from unit start u c) → ((v : ℕ) → start ≤ v → v < u → test (unit v) (unit_before unit start v) ≡ true) → start ≤ u → u ≤ m → (u < m → test (unit u) (unit_before unit start u) ≡ false) → RunBy test unit m start t
    run_ended m n s e a b f =
        record {
          low = omega (arith, n);
          high = omega (arith, n);
          each = λ v p q. e v p (rw n at q);
          ended = λ l. rw n (f (rw n at l));
          sum = λ c. s c ∙ ap (λ (i : ℕ). sum_from unit start i c) (sym n);
        }

  -- no second end and no other sums fit a run
  pub run_by_once : (test : UnitRow → ℕ → Bool) (m : ℕ) (t x : Sums) → RunBy test unit m start t → RunBy test unit m start x → t ≡ x
  run_by_once test m t x h g = same_sums t x next (λ c. h.sum c ∙ ap (λ (i : ℕ). sum_from unit start i c) next ∙ sym (g.sum c))
    where
      not_before : (t x : Sums) → RunBy test unit m start t → RunBy test unit m start x → t.next < x.next → ⊥
      not_before t x h g l = no_yes (h.ended (omega (arith, g.high))) (g.each t.next h.low l)

      next : t.next ≡ x.next
      next =
          ⊎_elim
          (λ (a : t.next < x.next). absurd (not_before t x h g a))
          (λ (a : x.next ≤ t.next). ⊎_elim
          (λ (b : x.next < t.next). absurd (not_before x t g h b))
          (λ (b : t.next ≤ x.next). omega arith)
          (lt_or_ge x.next t.next))
          (lt_or_ge t.next x.next)

  -- where the rows before the run do not name k and those of the run do, its sums are those over the rows of k so far
  pub from_is_over : (k n : ℕ) (c : Factor) → ((u : ℕ) → u < start → key_of unit u ≡ k → ⊥) → ((u : ℕ) → start ≤ u → u < n → key_of unit u ≡ k) → sum_from unit start n c ≡ sum_over unit n k (of_row c)
  from_is_over k n c off on = total_same _ _ n (λ u l. ⊎_elim
      (λ (b : u < start). rw (lt-leb start u b) (sym (keyed_miss (key_of unit) k (λ v. of_row c (unit v)) u (off u b))))
      (λ (b : start ≤ u). rw (le-leb start u b) (keyed_hit (key_of unit) k (λ v. of_row c (unit v)) u (on u b l)))
      (lt_or_ge u start))

-- ---- the run of one constraint

module _ (unit : ℕ → UnitRow) (m k : ℕ) where
  pub run_of_key : (start : ℕ) {t : Sums} → Walked unit m → Stands (key_of unit) m k start → RunBy (λ r last. eqb r.constraint k) unit m start t → RunOf unit m k t
  run_of_key start {t} w s h = record { past = past; sum = λ c. sum_past _ m k _ t.next (h.sum c ∙ over c) past }
    where
      on : (u : ℕ) → start ≤ u → u < t.next → key_of unit u ≡ k
      on u a b = eqb-true (key_of unit u) k (h.each u a b)

      over : (c : Factor) → sum_from unit start t.next c ≡ sum_over unit t.next k (of_row c)
      over c = from_is_over unit start k t.next c (λ u b e. omega (arith, s.under u b)) on

      so_far : Run (key_of unit) m k t.next
      so_far =
          record {
            high = h.high;
            under = λ i l. ⊎_elim (λ (b : i < start). omega (arith, s.under i b)) (λ (b : start ≤ i). omega (arith, on i b l)) (lt_or_ge i start);
            over = λ i a b. s.over i (omega (arith, h.low)) b;
          }

      past : Past (key_of unit) m k t.next
      past =
          ⊎_elim
          (λ (l : t.next < m). run_stop _ m k t.next w.keep so_far l (eqb-false (key_of unit t.next) k (h.ended l)))
          (λ (l : m ≤ t.next). run_done _ m k t.next so_far (omega (arith, h.high)))
          (lt_or_ge t.next m)

  -- sums of at most 600 rows are small
  small : (c : Factor) (n : ℕ) → Walked unit m → n ≤ m → sum_over unit n k (of_row c) ≤ 600_000_000
  small c n w l =
      omega (arith, w.few, total_bound (keyed (key_of unit) k (λ u. of_row c (unit u))) 1_000_000 n (λ i j. keyed_le (key_of unit) k (λ u. of_row c (unit u)) 1_000_000 i (row_small (unit i) (w.rules i (omega arith)) c)))

  pub run_small : {t : Sums} → Walked unit m → RunOf unit m k t → (c : Factor) → of_sums c t ≤ 600_000_000
  run_small w h c = rw (h.sum c) (small c m w (omega arith))

-- what a row counts for, by whether it names the constraint
one_row : (t : Bool) (p n : ℕ) → eqb (cond t (p + n) 0) 0 ≡ (not t || (eqb p 0 && eqb n 0))
one_row true p n = sum_nil p n
one_row false p n = refl

-- the sizes of the CFs make 0 exactly where every CF is 0
pub none_is : (unit : ℕ → UnitRow) (m k : ℕ) → eqb (sum_over unit m k (λ r. r.pcf) + sum_over unit m k (λ r. r.ncf)) 0 ≡ no_factor unit m k
unfolding keyed
none_is unit m k =
    rw (← keyed_plus (key_of unit) k (λ u. (unit u).pcf) (λ u. (unit u).ncf) m, total_nil) (all_same _ _ m each)
  where
    each : (u : ℕ) → eqb (keyed (key_of unit) k (λ v. (unit v).pcf + (unit v).ncf) u) 0 ≡ (not (eqb (key_of unit u) k) || (eqb (unit u).pcf 0 && eqb (unit u).ncf 0))
    each u = one_row (eqb (key_of unit u) k) (unit u).pcf (unit u).ncf

-- the test on the sums of a run is the rule
pub factors_is : (unit : ℕ → UnitRow) (m : ℕ) (con : ℕ → Constraint) (j : ℕ) {r : Constraint} {t : Sums} {b : Bool} → r ≡ con j → RunOf unit m r.id t → b ≡ sums_ok r t.pcf t.ncf t.dcf → b ≡ factors_at unit m con j
unfolding factors_at
factors_is unit m con j e h q = q ∙ rw (h.sum plus, h.sum minus, h.sum default, e, none_is unit m (con j).id)
