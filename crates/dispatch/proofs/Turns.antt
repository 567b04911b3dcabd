-- The pass over dispatch rows turn by turn: what is known of the rows so far, of the last one's key and of what its id and service came to.
-- Assumes nothing.
use Prim.Native.Nat.{ℕ, zero, suc, ◌+◌, ◌-◌, ◌*◌, ◌/◌, ◌≤◌, ◌<◌}
use mathlib.Core.Path.{◌≡◌, refl, sym, ap, ◌∙◌}
use mathlib.Core.Bool.{Bool, true, false, cond, ◌&&◌, not}
use mathlib.Core.List.{List, [], ◌∷◌}
use native.Mathlib.Omega.{arith}
use native.Mathlib.Numerals.{add-one}
use native.Mathlib.Nat.{add-zero, le_refl}
use borrow.Author.Count.{below_more}
use borrow.Author.Tests.{eqb-true, eqb-false, leb-true, le-leb, lt-ltb, not-false}
use lib.Dec.{eqb, leb, ltb}
use lib.ListN.{length}
use Rattle.ground.specs.Units.{money_limit}
use Rattle.ground.proofs.Every.{every}
use Rattle.sections.specs.First.{first_bad}
use Rattle.sections.specs.Order.{rises_by}
use Rattle.sections.specs.Total.{keyed}
use Rattle.sections.specs.Inner.Order.{Keeps}
use Rattle.std.specs.Prelude.{None}
use Rattle.sections.proofs.Cases.{cond_same}
use Rattle.sections.proofs.First.{first_none, first_more, first_each}
use Rattle.sections.proofs.Order.{rises_first, rises_later, rises_step, keeps}
use Rattle.sections.proofs.Total.{total_none, total_more, total_zero, keyed_hit, keyed_miss, keyed_none}
use Rattle.dispatch.specs.Dispatch.{dispatch_row, row_in_range, row_below, product_of, product_limit, amount_of, sum_with, row_ok}
use Rattle.dispatch.specs.Inner.Keys.{id_service_region}
use Rattle.dispatch.specs.Inner.Pass.{last_key, last_sum}
use Rattle.dispatch.specs.declared.DispatchRow.{DispatchRow}
use Rattle.dispatch.proofs.Rows.{Ranged, ranged, below_is, id_service, id_service_lem, service_keeps, same_service}

-- ---- sums by id and service, row by row

module _ (row : ℕ → DispatchRow) where
  -- what row i adds to the sum of an id and a service
  abbrev part : ℕ → ℕ → ℕ → ℕ
  part id service = keyed (λ i. (row i).id) id (keyed (λ i. (row i).service) service (λ i. amount_of (row i)))

  pub sum_none : (id service : ℕ) → 0 ≡ sum_with row id service 0
  unfolding sum_with
  sum_none id service = total_none (part id service)

  -- a row that has the id and the service
  pub sum_hit : (id service i : ℕ) {t : ℕ} → (row i).id ≡ id → (row i).service ≡ service → t ≡ sum_with row id service i → t + amount_of (row i) ≡ sum_with row id service (i + 1)
  unfolding sum_with
  sum_hit id service i e q d =
      total_more (part id service) i d (keyed_hit (λ j. (row j).service) service (λ j. amount_of (row j)) i q ∙ keyed_hit (λ j. (row j).id) id _ i e)

  -- and one that has not
  sum_miss : (id service i : ℕ) {t : ℕ} → part id service i ≡ 0 → t ≡ sum_with row id service i → t ≡ sum_with row id service (i + 1)
  unfolding sum_with
  sum_miss id service i {t} e d = sym (add-zero t) ∙ total_more (part id service) i d (sym e)

  -- where no row so far has them, there is nothing
  pub sum_nothing : (id service n : ℕ) → ((j : ℕ) → j < n → part id service j ≡ 0) → 0 ≡ sum_with row id service n
  unfolding sum_with
  sum_nothing id service n h = total_zero (part id service) n h

  other_id : (id service i : ℕ) → ((row i).id ≡ id → ⊥) → part id service i ≡ 0
  other_id id service i e = keyed_miss (λ j. (row j).id) id _ i e

  other_service : (id service i : ℕ) → ((row i).service ≡ service → ⊥) → part id service i ≡ 0
  other_service id service i e = keyed_none (λ j. (row j).id) id _ i (keyed_miss (λ j. (row j).service) service (λ j. amount_of (row j)) i e)

  -- the sum that is asked for, with row i where the question names it: r is that row
  module _ (id service i : ℕ) {a : ℕ} {r : DispatchRow} {named : Bool} (e : r ≡ row i) (h : named ≡ (eqb r.id id && eqb r.service service)) (d : a ≡ sum_with row id service i) where
    pub sum_asked : {n : ℕ} → n ≡ cond named (a + amount_of r) a → n ≡ sum_with row id service (i + 1)
    sum_asked g = (rw (h, e) at g) ∙ by (eqb (row i).id id) refl (eqb (row i).service service) refl
      where
        by : (p : Bool) → eqb (row i).id id ≡ p → (q : Bool) → eqb (row i).service service ≡ q → cond (p && q) (a + amount_of (row i)) a ≡ sum_with row id service (i + 1)
        by true p true q = sum_hit id service i (eqb-true (row i).id id p) (eqb-true (row i).service service q) d
        by true p false q = sum_miss id service i (other_service id service i (eqb-false (row i).service service q)) d
        by false p q _ = sum_miss id service i (other_id id service i (eqb-false (row i).id id p)) d

    -- there is room for it where x, what the row's own id and service come to with it, is within the limit
    pub asked_room : (x : ℕ) → x ≡ sum_with row (row i).id (row i).service (i + 1) → x ≤ money_limit → named ≡ true → a + amount_of r ≤ money_limit
    asked_room x q l t =
        let both = every (eqb (row i).id id ∷ eqb (row i).service service ∷ []) (rw e at (sym h ∙ t)) in
        let own = sum_hit id service i (eqb-true (row i).id id both.0) (eqb-true (row i).service service both.1.0) d in
        rw (e, own, ← eqb-true (row i).id id both.0, ← eqb-true (row i).service service both.1.0, ← q) l

  -- ---- the last row

  pub last_sum_lem : (i : ℕ) → last_sum row (i + 1) ≡ sum_with row (row i).id (row i).service (i + 1)
  unfolding last_sum
  last_sum_lem i = rw add-one

  pub record Rising (n : ℕ) : Type 0 where
    pub range : (j : ℕ) → j < n → Ranged (row j)
    pub rises : (j : ℕ) → j < n → rises_by row_below row j ≡ true

  -- a row in range is above the last key exactly where it rises
  key_rises : (i : ℕ) → Rising i → Ranged (row i) → ltb (last_key row i) (id_service_region (row i)) ≡ rises_by row_below row i
  unfolding last_key
  key_rises zero h r = lt-ltb 0 (id_service_region (row 0)) (omega (arith, r.from)) ∙ rises_first row_below row 0 refl
  key_rises (suc k) h r =
      let back : k ≡ suc k - 1 = omega arith in
      rises_later row_below row (suc k) (λ (e : suc k ≡ 0). omega arith) (ap row back) refl (below_is (row k) (row (suc k)) (h.range k (le_refl (suc k))) r)

  -- among rows that rise, those of an id and a service stand side by side
  pub service_order : (n : ℕ) → Rising n → Keeps (λ j. id_service (row j)) n
  service_order n h =
      keeps (λ j. id_service (row j)) n (λ k l. service_keeps (row k) (row (suc k)) (h.range k (omega arith)) (h.range (suc k) l) (rises_step row_below row k (h.rises (suc k) l)))

  -- where row k has another id or service than a later row m, no row up to k has those of m
  pub sum_apart : (n : ℕ) → Rising n → (k m : ℕ) → k < m → m < n → (id_service (row k) ≡ id_service (row m) → ⊥) → 0 ≡ sum_with row (row m).id (row m).service (suc k)
  sum_apart n h k m l b d = sum_nothing (row m).id (row m).service (suc k) none
    where
      order : Keeps (λ j. id_service (row j)) n
      order = service_order n h

      differ : (j : ℕ) → j < suc k → (row j).id ≡ (row m).id → (row j).service ≡ (row m).service → ⊥
      differ j a e q =
          let up = order.keep j k (omega arith) (omega arith) in
          let on = order.keep k m (omega arith) b in
          let same : id_service (row j) ≡ id_service (row m) = omega arith in
          d (omega arith)

      none : (j : ℕ) → j < suc k → part (row m).id (row m).service j ≡ 0
      none j a = other (eqb (row j).id (row m).id) refl
        where
          other : (t : Bool) → eqb (row j).id (row m).id ≡ t → part (row m).id (row m).service j ≡ 0
          other true t = other_service (row m).id (row m).service j (differ j a (eqb-true (row j).id (row m).id t))
          other false t = other_id (row m).id (row m).service j (eqb-false (row j).id (row m).id t)

  -- so what the rows before it of its id and service came to is the last sum, or nothing where the last row has another id or service
  run_is : (i : ℕ) → Rising (i + 1) → cond (eqb (id_service_region (row i) / 256) (last_key row i / 256)) (last_sum row i) 0 ≡ sum_with row (row i).id (row i).service i
  unfolding last_key last_sum
  run_is zero h = cond_same {A = ℕ} (eqb (id_service_region (row 0) / 256) (0 / 256)) 0 ∙ sum_none (row 0).id (row 0).service
  run_is (suc k) h =
      rw (id_service_lem (row (suc k)) here, id_service_lem (row k) last) (by (eqb (id_service (row (suc k))) (id_service (row k))) refl)
    where
      here : Ranged (row (suc k))
      here = h.range (suc k) (omega arith)

      last : Ranged (row k)
      last = h.range k (omega arith)

      by : (t : Bool) → eqb (id_service (row (suc k))) (id_service (row k)) ≡ t → cond t (sum_with row (row k).id (row k).service (suc k)) 0 ≡ sum_with row (row (suc k)).id (row (suc k)).service (suc k)
      by true t =
          let same = same_service (row (suc k)) (row k) here last (eqb-true (id_service (row (suc k))) (id_service (row k)) t) in
          rw (same.0, same.1)
      by false t = sum_apart (suc k + 1) h k (suc k) (omega arith) (omega arith) (λ (e : id_service (row k) ≡ id_service (row (suc k))). eqb-false (id_service (row (suc k))) (id_service (row k)) t (sym e))

-- ---- the pass

-- what it says that a row has no fault
pub record Faultless (s : List ℕ) (i : ℕ) : Type 0 where
  pub range : Ranged (dispatch_row s i)
  pub rises : rises_by row_below (dispatch_row s) i ≡ true
  pub sum : sum_with (dispatch_row s) (dispatch_row s i).id (dispatch_row s i).service (i + 1) ≤ money_limit

faultless : (s : List ℕ) (i : ℕ) → row_ok s i ≡ true → Faultless s i
unfolding row_ok
faultless s i e =
    let r = dispatch_row s i in
    let sum = sum_with (dispatch_row s) r.id r.service (i + 1) in
    let h = every (leb ((i + 1) * 16) (length s) ∷ row_in_range r ∷ rises_by row_below (dispatch_row s) i ∷ leb (product_of r) product_limit ∷ leb sum money_limit ∷ []) e in
    record { range = ranged r h.1.0; rises = h.1.1.0; sum = leb-true sum money_limit h.1.1.1.1.0 }

-- tests in a row, of which one may be put for another where those before it hold
in_place : (a b b' c d d' : Bool) → (a ≡ true → b ≡ b') → (a ≡ true → b' ≡ true → d ≡ d') → (a && b && c && d) ≡ (a && b' && c && d')
in_place false b b' c d d' f g = refl
in_place true b b' c d d' f g = rw (f refl) (by b' refl)
  where
    by : (t : Bool) → b' ≡ t → (t && c && d) ≡ (t && c && d')
    by true t = rw (g refl t)
    by false t = refl

module _ (s : List ℕ) where
  -- the rows before i have no fault, `before` is the last one's key, and `run` what its id and service came to
  pub record Passed (i before run : ℕ) : Type 0 where
    pub good : first_bad (row_ok s) i ≡ None
    pub key : before ≡ last_key (dispatch_row s) i
    pub sum : run ≡ last_sum (dispatch_row s) i

  pub passed_none : Passed 0 0 0
  unfolding last_key last_sum
  passed_none = record { good = first_none (row_ok s); key = refl; sum = refl }

  pub each : (i : ℕ) → first_bad (row_ok s) i ≡ None → (j : ℕ) → j < i → Faultless s j
  each i g j l = faultless s j (first_each (row_ok s) i g j l)

  pub rising : (i : ℕ) → first_bad (row_ok s) i ≡ None → Rising (dispatch_row s) i
  rising i g = record { range = λ j l. (each i g j l).range; rises = λ j l. (each i g j l).rises }

  -- no sum so far passes the limit
  pub last_limit : (i : ℕ) → first_bad (row_ok s) i ≡ None → last_sum (dispatch_row s) i ≤ money_limit
  unfolding last_sum
  last_limit zero g = omega arith
  last_limit (suc k) g = rw add-one at (each (suc k) g k (le_refl (suc k))).sum

  pub run_limit : (i : ℕ) {before run : ℕ} → Passed i before run → run ≤ money_limit
  run_limit i p = rw p.sum (last_limit i p.good)

  -- the next row, where it is in range, is above the key exactly where it rises
  pub key_told : (i : ℕ) {before run : ℕ} → Passed i before run → Ranged (dispatch_row s i) → ltb before (id_service_region (dispatch_row s i)) ≡ rises_by row_below (dispatch_row s) i
  key_told i p r = rw p.key (key_rises (dispatch_row s) i (rising i p.good) r)

  -- a turn: r is row i, x what its id and service come to with it, and b whether it has no fault
  module _ (i : ℕ) {before run x : ℕ} {r : DispatchRow} {b : Bool} (p : Passed i before run) (w : (i + 1) * 16 ≤ length s) (e : r ≡ dispatch_row s i) (q : x ≡ cond (eqb (id_service_region r / 256) (before / 256)) run 0 + amount_of r) (t : b ≡ (row_in_range r && ltb before (id_service_region r) && leb (product_of r) product_limit && leb x money_limit)) where
    sum_is : Ranged (dispatch_row s i) → rises_by row_below (dispatch_row s) i ≡ true → x ≡ sum_with (dispatch_row s) (dispatch_row s i).id (dispatch_row s i).service (i + 1)
    sum_is a o =
        let h = rising i p.good in
        let more : Rising (dispatch_row s) (i + 1) = record {
          range = below_more (λ (j : ℕ). Ranged (dispatch_row s j)) i h.range a;
          rises = below_more (λ (j : ℕ). rises_by row_below (dispatch_row s) j ≡ true) i h.rises o;
        } in
        (rw (e, p.key, p.sum) at q) ∙ sum_hit (dispatch_row s) (dispatch_row s i).id (dispatch_row s i).service i refl refl (run_is (dispatch_row s) i more)

    pub row_told : b ≡ row_ok s i
    unfolding row_ok
    row_told =
        rw (le-leb ((i + 1) * 16) (length s) w)
        ((rw e at t) ∙ in_place (row_in_range (dispatch_row s i)) _ (rises_by row_below (dispatch_row s) i) _ _ _
        (λ a. key_told i p (ranged (dispatch_row s i) a))
        (λ a o. ap (λ n. leb n money_limit) (sum_is (ranged (dispatch_row s i) a) o)))

    pub sum_told : not b ≡ false → x ≡ sum_with (dispatch_row s) (dispatch_row s i).id (dispatch_row s i).service (i + 1)
    sum_told f = let h = faultless s i (sym row_told ∙ not-false b f) in sum_is h.range h.rises

    pub passed_more : {key : ℕ} → not b ≡ false → key ≡ id_service_region r → Passed (i + 1) key x
    unfolding last_key last_sum
    passed_more f k =
        record {
          good = first_more (row_ok s) i p.good row_told f;
          key = rw add-one (k ∙ ap id_service_region e);
          sum = rw add-one (rw add-one at (sum_told f));
        }

    pub sum_limit : not b ≡ false → x ≤ money_limit
    sum_limit f = rw (sum_told f) (faultless s i (sym row_told ∙ not-false b f)).sum
