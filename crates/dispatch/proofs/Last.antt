-- The last of so many rows: its key, and what its id and service come to, from its rows passed backwards. Assumes nothing.
use Prim.Native.Nat.{ℕ, zero, suc, ◌+◌, ◌-◌, ◌/◌, ◌≤◌, ◌<◌}
use mathlib.Core.Path.{◌≡◌, refl, sym, ap, ◌∙◌}
use mathlib.Core.List.{List}
use native.Mathlib.Omega.{arith}
use mathlib.Core.Logic.{⊎_elim}
use native.Mathlib.Nat.{le_refl, eq-or-lt_of_le}
use Rattle.sections.specs.First.{first_bad}
use Rattle.std.specs.Prelude.{None}
use Rattle.dispatch.specs.Dispatch.{dispatch_row, amount_of, sum_with, row_ok}
use Rattle.dispatch.specs.Inner.Keys.{id_service_region}
use Rattle.dispatch.specs.Inner.Pass.{last_key, last_sum}
use Rattle.dispatch.specs.declared.DispatchRow.{DispatchRow}
use Rattle.dispatch.proofs.Rows.{Ranged, id_service, id_service_lem, same_service}
use Rattle.dispatch.proofs.Turns.{sum_none, sum_hit, sum_apart, each, rising}

module _ (row : ℕ → DispatchRow) where
  pub key_none : (i : ℕ) → i ≡ 0 → 0 ≡ last_key row i
  unfolding last_key
  key_none i e = rw e

  pub key_last : (i : ℕ) {r : DispatchRow} {k : ℕ} → (i ≡ 0 → ⊥) → r ≡ row (i - 1) → k ≡ id_service_region r → k ≡ last_key row i
  unfolding last_key
  key_last zero d e q = absurd (d refl)
  key_last (suc j) d e q = let back : suc j - 1 ≡ j = omega arith in q ∙ ap id_service_region (e ∙ ap row back)

-- the rows before i have no fault
module _ (s : List ℕ) where
  -- of the last row's id and service, the rows from j on come to `run`
  pub record Back (i j run : ℕ) : Type 0 where
    pub high : j ≤ i
    pub rest : run + sum_with (dispatch_row s) (dispatch_row s (i - 1)).id (dispatch_row s (i - 1)).service j ≡ last_sum (dispatch_row s) i

  pub back_start : (i : ℕ) → Back i i 0
  unfolding last_sum
  back_start zero = record { high = le_refl 0; rest = omega (arith, sum_none (dispatch_row s) (dispatch_row s (0 - 1)).id (dispatch_row s (0 - 1)).service) }
  back_start (suc m) = let back : suc m - 1 ≡ m = omega arith in record { high = le_refl (suc m); rest = rw back (omega arith) }

  -- behind the first row
  pub back_all : (i j : ℕ) {run : ℕ} → Back i j run → j ≤ 0 → run ≡ last_sum (dispatch_row s) i
  back_all i j b l =
      let none : j ≡ 0 = omega arith in
      omega (arith, rw none at b.rest, sum_none (dispatch_row s) (dispatch_row s (i - 1)).id (dispatch_row s (i - 1)).service)

  -- a turn: r is row j - 1, x its key, and k the last row's
  module _ (i j : ℕ) {run x k : ℕ} {r : DispatchRow} (g : first_bad (row_ok s) i ≡ None) (b : Back i j run) (l : 0 < j) (e : r ≡ dispatch_row s (j - 1)) (p : x ≡ id_service_region r) (q : k ≡ last_key (dispatch_row s) i) where
    range : (m : ℕ) → m < i → Ranged (dispatch_row s m)
    range m h = (each s i g m h).range

    -- the two rows by id and service
    here : x / 256 ≡ id_service (dispatch_row s (j - 1))
    here = rw (p, e) (id_service_lem (dispatch_row s (j - 1)) (range (j - 1) (omega (arith, b.high))))

    last : k / 256 ≡ id_service (dispatch_row s (i - 1))
    unfolding last_key
    last = rw q (by i refl)
      where
        by : (n : ℕ) → i ≡ n → last_key (dispatch_row s) n / 256 ≡ id_service (dispatch_row s (n - 1))
        by zero h = absurd (none h)
          where
            none : i ≡ 0 → ⊥
            none h = omega (arith, b.high)
        by (suc m) h = let back : suc m - 1 ≡ m = omega arith in rw back (id_service_lem (dispatch_row s m) (range m (omega arith)))

    same : x / 256 ≡ k / 256 → ((dispatch_row s (j - 1)).id ≡ (dispatch_row s (i - 1)).id) × ((dispatch_row s (j - 1)).service ≡ (dispatch_row s (i - 1)).service)
    same h =
        same_service (dispatch_row s (j - 1)) (dispatch_row s (i - 1)) (range (j - 1) (omega (arith, b.high))) (range (i - 1) (omega (arith, b.high)))
        (sym here ∙ h ∙ last)

    -- a row of the same id and service
    pub back_more : {a : ℕ} → x / 256 ≡ k / 256 → a ≡ amount_of r → Back i (j - 1) (run + a)
    back_more {a} h m =
        let two = same h in
        let up : j - 1 + 1 ≡ j = omega arith in
        let sum = rw up at (sum_hit (dispatch_row s) (dispatch_row s (i - 1)).id (dispatch_row s (i - 1)).service (j - 1) two.0 two.1 refl) in
        let amount = m ∙ ap amount_of e in
        record { high = omega (arith, b.high); rest = omega (arith, b.rest, sum, amount) }

    -- another: no earlier row has them
    pub back_stop : (x / 256 ≡ k / 256 → ⊥) → run ≡ last_sum (dispatch_row s) i
    back_stop d =
        let up : suc (j - 1) ≡ j = omega arith in
        let none : 0 ≡ sum_with (dispatch_row s) (dispatch_row s (i - 1)).id (dispatch_row s (i - 1)).service j = rw up at (sum_apart (dispatch_row s) i (rising s i g) (j - 1) (i - 1) before (omega (arith, b.high)) (λ (h : id_service (dispatch_row s (j - 1)) ≡ id_service (dispatch_row s (i - 1))). d (here ∙ h ∙ sym last))) in
        omega (arith, b.rest, none)
      where
        low : j - 1 ≤ i - 1
        low = omega (arith, b.high)

        before : j - 1 < i - 1
        before =
            ⊎_elim
            (λ (h : j - 1 ≡ i - 1). absurd (d (here ∙ ap (λ (n : ℕ). id_service (dispatch_row s n)) h ∙ sym last)))
            (λ (h : j - 1 < i - 1). h)
            (eq-or-lt_of_le low)
