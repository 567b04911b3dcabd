-- Rows of which each is ordinary have no fault: an id and a service have one row for each region at most, and five ordinary amounts do not pass the
-- limit. Assumes nothing.
use Prim.Native.Nat.{ℕ, zero, suc, ◌+◌, ◌*◌, ◌/◌, ◌≤◌, ◌<◌}
use mathlib.Core.Path.{◌≡◌, refl, sym, ap, ◌∙◌}
use mathlib.Core.Bool.{Bool, true, false, cond, ◌&&◌, not}
use mathlib.Core.List.{List, [], ◌∷◌}
use native.Mathlib.Omega.{arith}
use native.Mathlib.Numerals.{add-one}
use native.Mathlib.Nat.{le_refl}
use borrow.Author.Tests.{eqb-true, leb-true, ltb-true, le-leb, not-false}
use lib.Dec.{eqb, leb, ltb}
use lib.ListN.{length}
use Rattle.ground.specs.Units.{money_limit}
use Rattle.ground.proofs.Every.{every}
use Rattle.sections.proofs.Cases.{cond_same}
use Rattle.dispatch.specs.Dispatch.{dispatch_row, row_in_range, product_of, product_limit, amount_of, sum_with}
use Rattle.dispatch.specs.Inner.Keys.{id_service_region}
use Rattle.dispatch.specs.Inner.Pass.{last_key, last_sum, ordinary_product, FrontIs}
use Rattle.dispatch.specs.declared.DispatchRow.{DispatchRow}
use Rattle.dispatch.proofs.Rows.{Ranged, ranged}
use Rattle.dispatch.proofs.Turns.{last_sum_lem, asked_room, Passed, passed_none, each, run_limit, passed_more}

-- an ordinary row's amount
small_amount : (r : DispatchRow) → product_of r ≤ ordinary_product → amount_of r ≤ 10_000_000_000
unfolding amount_of
small_amount r h = omega arith

module _ (row : ℕ → DispatchRow) where
  -- as much as an ordinary row for each region up to the last row's comes to
  unfoldable pub regions_sum : ℕ → ℕ
  regions_sum zero = 0
  regions_sum (suc k) = ((row k).region + 1) * 10_000_000_000

  -- the last row's sum stays within that: a row of the same id and service has a later region
  regions_hold : (i : ℕ) → ((k : ℕ) → i ≡ suc k → Ranged (row k)) → last_sum row i ≤ regions_sum i → Ranged (row i) → last_key row i < id_service_region (row i) → product_of (row i) ≤ ordinary_product → cond (eqb (id_service_region (row i) / 256) (last_key row i / 256)) (last_sum row i) 0 + amount_of (row i) ≤ ((row i).region + 1) * 10_000_000_000
  unfolding last_key last_sum regions_sum
  regions_hold zero g b r l p = rw (cond_same {A = ℕ} (eqb (id_service_region (row 0) / 256) (0 / 256)) 0) (omega (arith, small_amount (row 0) p))
  regions_hold (suc k) g b r l p = by (eqb (id_service_region (row (suc k)) / 256) (id_service_region (row k) / 256)) refl
    where
      a : amount_of (row (suc k)) ≤ 10_000_000_000
      a = small_amount (row (suc k)) p

      by : (t : Bool) → eqb (id_service_region (row (suc k)) / 256) (id_service_region (row k) / 256) ≡ t → cond t (sum_with row (row k).id (row k).service (suc k)) 0 + amount_of (row (suc k)) ≤ ((row (suc k)).region + 1) * 10_000_000_000
      by true t =
          let same = eqb-true (id_service_region (row (suc k)) / 256) (id_service_region (row k) / 256) t in
          let last = g k refl in
          let later : (row k).region + 1 ≤ (row (suc k)).region = omega (arith, r.region, last.region) in
          omega (arith, a, b)
      by false t = omega (arith, a)

module _ (s : List ℕ) where
  -- the rows before i are ordinary, so they have no fault, and `before` is the last one's key
  pub record Ordinarily (i before : ℕ) : Type 0 where
    pub passed : Passed s i before (last_sum (dispatch_row s) i)
    pub low : last_sum (dispatch_row s) i ≤ regions_sum (dispatch_row s) i

  pub ordinary_none : Ordinarily 0 0
  unfolding last_sum regions_sum
  ordinary_none = record { passed = passed_none s; low = omega arith }

  -- a turn: r is row i, and b whether it is ordinary
  module _ (i : ℕ) {before : ℕ} {r : DispatchRow} {b : Bool} (o : Ordinarily i before) (w : (i + 1) * 16 ≤ length s) (e : r ≡ dispatch_row s i) (t : b ≡ (leb (product_of r) ordinary_product && ltb before (id_service_region r) && row_in_range r)) (f : not b ≡ false) where
    -- what its id and service come to with it
    abbrev own : ℕ
    own = cond (eqb (id_service_region r / 256) (before / 256)) (last_sum (dispatch_row s) i) 0 + amount_of r

    record Tested : Type 0 where
      small : product_of r ≤ ordinary_product
      up : ltb before (id_service_region r) ≡ true
      range : row_in_range r ≡ true

    tested : Tested
    tested =
        let h = every (leb (product_of r) ordinary_product ∷ ltb before (id_service_region r) ∷ row_in_range r ∷ []) (sym t ∙ not-false b f) in
        record { small = leb-true (product_of r) ordinary_product h.0; up = h.1.0; range = h.1.1.0 }

    own_low : own ≤ (r.region + 1) * 10_000_000_000
    own_low =
        rw (e, o.passed.key)
        (regions_hold (dispatch_row s) i earlier o.low (rw e at (ranged r tested.range)) (rw (e, o.passed.key) at (ltb-true before (id_service_region r) tested.up)) (rw e at tested.small))
      where
        earlier : (k : ℕ) → i ≡ suc k → Ranged (dispatch_row s k)
        earlier k q = (each s i o.passed.good k (omega arith)).range

    passed : Passed s (i + 1) (id_service_region r) own
    passed =
        let holds : true ≡ (row_in_range r && ltb before (id_service_region r) && leb (product_of r) product_limit && leb own money_limit) =
        rw (tested.range, tested.up, le-leb (product_of r) product_limit (omega (arith, tested.small)), le-leb own money_limit (omega (arith, own_low, (ranged r tested.range).region))) in
        passed_more s i o.passed w e refl holds refl refl

    pub ordinary_more : {key : ℕ} → key ≡ id_service_region r → Ordinarily (i + 1) key
    unfolding regions_sum
    ordinary_more k =
        record {
          passed = record { good = passed.good; key = k ∙ passed.key; sum = refl };
          low = rw (← passed.sum, add-one) (omega (arith, own_low, ap (λ (q : DispatchRow). q.region) e));
        }

    -- the sum asked for has room for the row
    pub ordinary_room : (id service : ℕ) {a : ℕ} {named : Bool} → named ≡ (eqb r.id id && eqb r.service service) → a ≡ sum_with (dispatch_row s) id service i → named ≡ true → a + amount_of r ≤ money_limit
    ordinary_room id service h d =
        asked_room (dispatch_row s) id service i e h d own (passed.sum ∙ last_sum_lem (dispatch_row s) i) (run_limit s (i + 1) passed)

  -- what is handed on: the rows so far, or all of them
  pub front_stop : (n id service i : ℕ) {before a : ℕ} → i ≤ n → Ordinarily i before → a ≡ sum_with (dispatch_row s) id service i → FrontIs s n id service i a
  front_stop n id service i h o d = record { high = h; good = o.passed.good; sum = d }

  pub front_all : (n id service i : ℕ) {before a : ℕ} → Ordinarily i before → a ≡ sum_with (dispatch_row s) id service i → i ≤ n → n ≤ i → FrontIs s n id service n a
  front_all n id service i o d h l = let e : i ≡ n = omega arith in record { high = le_refl n; good = rw e at o.passed.good; sum = rw e at d }
