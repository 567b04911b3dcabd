-- A run over the unit rows of one constraint, row by row, and what its constraint's test shows. Assumes nothing.
use Prim.Native.Nat.{ℕ, zero, suc, ◌+◌, ◌-◌, ◌*◌, ◌≤◌, ◌<◌}
use mathlib.Core.List.{List, [], ◌∷◌}
use mathlib.Core.Path.{◌≡◌, refl, sym, ap, ◌∙◌}
use mathlib.Core.Bool.{Bool, true, false, cond, not, ◌&&◌, ◌||◌}
use mathlib.Core.Logic.{⊎_elim}
use borrow.Author.Tests.{leb-true, eqb-true, ltb-true, lt-ltb, le-ltb, le-leb, eq-eqb, not-true, not-false}
use lib.Dec.{eqb, leb, ltb}
use native.Mathlib.Omega.{arith}
use Rattle.ground.specs.Bytes.{u32_at}
use Rattle.numbers.specs.Sizes.{size_below, above_of, below_of}
use Rattle.ground.proofs.Every.{every, all}
use Rattle.sections.specs.Order.{rises_by, pair_below}
use Rattle.sections.specs.Inner.Walk.{Under}
use Rattle.sections.specs.Total.{keyed}
use Rattle.sections.proofs.Cases.{no_yes}
use Rattle.sections.proofs.Order.{rises_first, rises_later, rises_step}
use Rattle.sections.proofs.Search.{lt_or_ge}
use Rattle.sections.proofs.Total.{total_bound, keyed_le}
use Rattle.records.specs.Rows.{unit_row}
use Rattle.rules.specs.Rules.{unit_below}
use Rattle.records.specs.declared.rows.Constraint.{Constraint}
use Rattle.records.specs.declared.rows.UnitRow.{UnitRow}
use Rattle.factors.specs.Naming.{key_of}
use Rattle.factors.specs.Factors.{sum_over}
use Rattle.factors.specs.Inner.Facts.{sums_ok}
use Rattle.factors.specs.Inner.Runs.{Factor, plus, minus, default, of_row, of_sums, unit_before, RunBy}
use Rattle.factors.specs.declared.sums.Sums.{Sums}
use Rattle.factors.proofs.Runs.{of_three, same_sums, before_first, before_more, from_is_over}
use Rattle.unit_pass.specs.Inner.Units.{follows, small_sums, run_holds, Followed, Along, Taken}

-- ---- order

or_right : (p : Bool) {q : Bool} → q ≡ true → (p || q) ≡ true
or_right true e = refl
or_right false e = e

pair_first : (a x b y : ℕ) → a < b → pair_below a x b y ≡ true
pair_first a x b y l = rw (lt-ltb a b l)

pair_second : (a x b y : ℕ) → a ≡ b → x < y → pair_below a x b y ≡ true
pair_second a x b y e l = or_right (ltb a b) (rw (eq-eqb a b e, lt-ltb x y l))

pair_later : (a x b y : ℕ) → a ≡ b → pair_below a x b y ≡ true → x < y
pair_later a x b y e h = ltb-true x y (rw (le-ltb a b (omega arith), eq-eqb a b e) at h)

-- a row above the one before it, if there is one
rises_at : (row : ℕ → UnitRow) (u : ℕ) → ((i : ℕ) → suc i ≡ u → unit_below (row i) (row u) ≡ true) → rises_by unit_below row u ≡ true
rises_at row zero h = sym (rises_first unit_below row 0 refl)
rises_at row (suc i) h =
    let back : i ≡ suc i - 1 = omega arith in
    sym (rises_later unit_below row (suc i) (λ (q : suc i ≡ 0). omega arith) (ap row back) refl (sym (h i refl)))

-- and back
rises_back : (row : ℕ → UnitRow) (u : ℕ) → rises_by unit_below row u ≡ true → (i : ℕ) → suc i ≡ u → unit_below (row i) (row u) ≡ true
rises_back row u h i e = rw (← e) (rises_step unit_below row i (rw (← e) at h))

-- ---- the run

module _ (row : ℕ → UnitRow) (m k start : ℕ) where
  -- a row that follows the one before it in the run belongs to the run, and back; the rows before the run name smaller ids
  module _ (under : Under (key_of row) start k) (u : ℕ) (low : start ≤ u) (before : (i : ℕ) → start ≤ i → i < u → (row i).constraint ≡ k) where
    pub followed : follows (row u) k (unit_before row start u) ≡ true → Followed row k u
    followed f =
        let h = every (eqb (row u).constraint k ∷ ltb (unit_before row start u) (row u).unit ∷ leb 1 (row u).account ∷ []) f in
        let key : (row u).constraint ≡ k = eqb-true (row u).constraint k h.0 in
        let up : unit_before row start u < (row u).unit = ltb-true (unit_before row start u) (row u).unit h.1.0 in
        record {
          same = key;
          unit = omega (arith, up);
          account = leb-true 1 (row u).account h.1.1.0;
          order = rises_at row u (λ i z. rw key (⊎_elim
              (λ (a : i < start). pair_first (row i).constraint (row i).unit k (row u).unit (under i a))
              (λ (a : start ≤ i). pair_second (row i).constraint (row i).unit k (row u).unit (before i a (omega (arith, z))) (rw (← before_more row start u i a (omega (arith, z)) refl) at up))
              (lt_or_ge i start)));
        }

    pub follows_back : Followed row k u → follows (row u) k (unit_before row start u) ≡ true
    follows_back f =
        all (eqb (row u).constraint k ∷ ltb (unit_before row start u) (row u).unit ∷ leb 1 (row u).account ∷ [])
        (eq-eqb (row u).constraint k f.same, (lt-ltb (unit_before row start u) (row u).unit up, (le-leb 1 (row u).account f.account, tt)))
      where
        up : unit_before row start u < (row u).unit
        up =
            ⊎_elim
            (λ (l : start < u).
            let i = u - 1 in
            let z : i + 1 ≡ u = omega arith in
            let a : start ≤ i = omega arith in
            rw (← before_more row start u i a z refl) (pair_later (row i).constraint (row i).unit (row u).constraint (row u).unit (before i a (omega arith) ∙ sym f.same) (rises_back row u f.order i (omega arith))))
            (λ (l : u ≤ start). rw (← before_first row start u l) f.unit)
            (lt_or_ge start u)

  -- the run to its end by that test is the run
  pub taken_by : Under (key_of row) start k → {t : Sums} → RunBy (λ r last. follows r k last) row m start t → Taken row m k start t
  taken_by under {t} h =
      record {
        along = record { low = h.low; high = h.high; each = each; sum = λ c. h.sum c ∙ from_is_over row start k t.next c (λ i b e. omega (arith, under i b)) keys };
        ended = λ l f. no_yes (h.ended l) (follows_back under t.next h.low keys f);
      }
    where
      keys : (i : ℕ) → start ≤ i → i < t.next → (row i).constraint ≡ k
      keys i a b = eqb-true (row i).constraint k (every (eqb (row i).constraint k ∷ ltb (unit_before row start i) (row i).unit ∷ leb 1 (row i).account ∷ []) (h.each i a b)).0

      each : (i : ℕ) → start ≤ i → i < t.next → Followed row k i
      each i a b = followed under i a (λ j c d. keys j c (omega arith)) (h.each i a b)

  -- no second end and no other sums fit a run
  pub taken_once : (t x : Sums) → Taken row m k start t → Taken row m k start x → t ≡ x
  taken_once t x h g = same_sums t x next (λ c. h.along.sum c ∙ ap (λ (i : ℕ). sum_over row i k (of_row c)) next ∙ sym (g.along.sum c))
    where
      not_before : (t x : Sums) → Taken row m k start t → Taken row m k start x → t.next < x.next → ⊥
      not_before t x h g l = h.ended (omega (arith, g.along.high)) (g.along.each t.next h.along.low l)

      next : t.next ≡ x.next
      next =
          ⊎_elim
          (λ (a : t.next < x.next). absurd (not_before t x h g a))
          (λ (a : x.next ≤ t.next). ⊎_elim
          (λ (b : x.next < t.next). absurd (not_before x t g h b))
          (λ (b : t.next ≤ x.next). omega arith)
          (lt_or_ge x.next t.next))
          (lt_or_ge t.next x.next)

-- ---- sums that fit

plus_narrow : (w : ℕ) → above_of w ≤ 4_294_967_295
unfolding above_of
plus_narrow w = by (ltb w 2_147_483_648) refl
  where
    by : (t : Bool) → ltb w 2_147_483_648 ≡ t → cond t w 0 ≤ 4_294_967_295
    by true e = let l = ltb-true w 2_147_483_648 e in omega arith
    by false e = omega arith

size_narrow : (w : ℕ) → size_below w ≤ 4_294_967_295
size_narrow w = omega arith

minus_narrow : (w : ℕ) → below_of w ≤ 4_294_967_295
unfolding below_of
minus_narrow w = by (ltb w 2_147_483_648)
  where
    by : (t : Bool) → cond t 0 (size_below w) ≤ 4_294_967_295
    by true = omega arith
    by false = size_narrow w

module _ (s : List ℕ) where
  row_narrow : (i : ℕ) (c : Factor) → of_row c (unit_row s i) ≤ 4_294_967_295
  unfolding unit_row
  row_narrow i plus = plus_narrow (u32_at s (i * 20 + 12))
  row_narrow i minus = minus_narrow (u32_at s (i * 20 + 12))
  row_narrow i default = size_narrow (u32_at s (i * 20 + 16))

  -- sums of at most 600 sizes of 32 bits
  bound : (c : Factor) (n k : ℕ) → n ≤ 600 → sum_over (unit_row s) n k (of_row c) ≤ 3_000_000_000_000
  bound c n k few =
      omega (arith, total_bound (keyed (key_of (unit_row s)) k (λ u. of_row c (unit_row s u))) 4_294_967_295 n (λ i _. keyed_le (key_of (unit_row s)) k (λ u. of_row c (unit_row s u)) 4_294_967_295 i (row_narrow i c)))

  pub along_fits : (m k start : ℕ) {t : Sums} → m ≤ 600 → Along (unit_row s) m k start t → (c : Factor) → of_sums c t ≤ 3_000_000_000_000
  along_fits m k start {t} few h c = rw (h.sum c) (bound c t.next k (omega (arith, h.high)))

-- ---- the test of a constraint

-- no sum is above 1,000,000
pub record Small (t : Sums) : Type 0 where
  pub each : (c : Factor) → of_sums c t ≤ 1_000_000

pub small_sums_lem : (t : Sums) {b : Bool} → b ≡ small_sums t → not b ≡ false → Small t
small_sums_lem t {b} e n =
    let h = every (leb t.pcf 1_000_000 ∷ leb t.ncf 1_000_000 ∷ leb t.dcf 1_000_000 ∷ []) (sym e ∙ not-false b n) in
    record {
      each = of_three (λ c. of_sums c t ≤ 1_000_000) (leb-true t.pcf 1_000_000 h.0) (leb-true t.ncf 1_000_000 h.1.0) (leb-true t.dcf 1_000_000 h.1.1.0);
    }

-- so they are what the test of the sums asks for
pub small_room : {t : Sums} → Small t → (t.pcf ≤ 600_000_000) × ((t.ncf ≤ 600_000_000) × (t.dcf ≤ 600_000_000))
small_room h = (omega (arith, h.each plus), (omega (arith, h.each minus), omega (arith, h.each default)))

-- the answer where they are not small, and where they are; b is what the test of the sums answered
pub settles_no : (r : Constraint) (t : Sums) (start : ℕ) {b : Bool} → b ≡ small_sums t → not b ≡ true → false ≡ run_holds r t start
settles_no r t start {b} e n =
    ap (λ (z : Bool). z && ((not (eqb r.mode 0) || eqb t.next start) && sums_ok r t.pcf t.ncf t.dcf)) (sym (sym e ∙ not-true b n))

pub settles_by : (r : Constraint) (t : Sums) (start : ℕ) {a b : Bool} → a ≡ small_sums t → not a ≡ false → b ≡ sums_ok r t.pcf t.ncf t.dcf → ((not (eqb r.mode 0) || eqb t.next start) && b) ≡ run_holds r t start
settles_by r t start {a} {b} e n q =
    ap (λ (z : Bool). (not (eqb r.mode 0) || eqb t.next start) && z) q
    ∙ ap (λ (z : Bool). z && ((not (eqb r.mode 0) || eqb t.next start) && sums_ok r t.pcf t.ncf t.dcf)) (sym (sym e ∙ not-false a n))

-- what it says that a constraint keeps its rule, and back
pub record Settled (r : Constraint) (t : Sums) (start : ℕ) : Type 0 where
  pub live : r.mode ≡ 0 → t.next ≡ start
  pub small : Small t
  pub sums : sums_ok r t.pcf t.ncf t.dcf ≡ true

pub settled_says : (r : Constraint) (t : Sums) (start : ℕ) → run_holds r t start ≡ true → Settled r t start
settled_says r t start h =
    let g = every (small_sums t ∷ ((not (eqb r.mode 0) || eqb t.next start) && sums_ok r t.pcf t.ncf t.dcf) ∷ []) h in
    let k = every ((not (eqb r.mode 0) || eqb t.next start) ∷ sums_ok r t.pcf t.ncf t.dcf ∷ []) g.1.0 in
    record {
      live = λ (q : r.mode ≡ 0). eqb-true t.next start (rw (eq-eqb r.mode 0 q) at k.0);
      small = small_sums_lem t refl (ap not g.0);
      sums = k.1.0;
    }

pub settled_said : (r : Constraint) (t : Sums) (start : ℕ) → Settled r t start → run_holds r t start ≡ true
settled_said r t start s =
    all (small_sums t ∷ ((not (eqb r.mode 0) || eqb t.next start) && sums_ok r t.pcf t.ncf t.dcf) ∷ []) (
      all (leb t.pcf 1_000_000 ∷ leb t.ncf 1_000_000 ∷ leb t.dcf 1_000_000 ∷ []) (le-leb t.pcf 1_000_000 (s.small.each plus), (le-leb t.ncf 1_000_000 (s.small.each minus), (le-leb t.dcf 1_000_000 (s.small.each default), tt))),
      (all ((not (eqb r.mode 0) || eqb t.next start) ∷ sums_ok r t.pcf t.ncf t.dcf ∷ []) (live (eqb r.mode 0) refl, (s.sums, tt)), tt),
    )
  where
    live : (z : Bool) → eqb r.mode 0 ≡ z → (not z || eqb t.next start) ≡ true
    live true e = eq-eqb t.next start (s.live (eqb-true r.mode 0 e))
    live false e = refl
