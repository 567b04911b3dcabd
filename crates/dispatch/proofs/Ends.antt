-- Each way in which the pass over dispatch rows ends: at a row with a fault, at a piece that is cut short, behind the last row. Assumes nothing.
use Prim.Native.Nat.{ℕ, ◌+◌, ◌*◌, ◌/◌, ◌≤◌, ◌<◌}
use mathlib.Core.Path.{◌≡◌, refl, ap, ◌∙◌}
use mathlib.Core.Bool.{Bool, true, false, not}
use mathlib.Core.List.{List}
use native.Mathlib.Omega.{arith}
use native.Mathlib.Nat.{zero-add}
use borrow.Author.Tests.{lt-leb, eq-eqb, ne_eqb}
use lib.ListN.{length}
use Rattle.sections.specs.First.{first_bad}
use Rattle.sections.specs.Refusal.{Verdict, at_record, refused}
use Rattle.sections.specs.declared.Refusal.{Refusal}
use Rattle.std.specs.Prelude.{None, Result, Ok, Err}
use Rattle.sections.proofs.First.{first_stop, first_all}
use Rattle.dispatch.specs.Dispatch.{dispatch_row, rows_in, sum_with, row_ok, rows_verdict, cost_if, base_cost}
use Rattle.dispatch.specs.Inner.Pass.{amountless}

module _ (s : List ℕ) where
  -- at a row with a fault; b is what its test answered
  pub pass_stop : (i amount : ℕ) {b : Bool} → first_bad (row_ok s) i ≡ None → b ≡ row_ok s i → not b ≡ true → i < rows_in s → refused 16 (i * 16) ≡ cost_if (rows_verdict s) amount
  unfolding rows_verdict at_record cost_if
  pass_stop i amount g e t l = rw (← first_stop (row_ok s) i (rows_in s) g e t l, zero-add)

  cut_short : (i : ℕ) → length s < (i + 1) * 16 → false ≡ row_ok s i
  unfolding row_ok
  cut_short i l = rw (lt-leb ((i + 1) * 16) (length s) l)

  -- at a piece behind the last whole row
  pub pass_short : (i n amount : ℕ) → first_bad (row_ok s) i ≡ None → i ≡ n → length s < (n + 1) * 16 → n * 16 < length s → refused 16 (n * 16) ≡ cost_if (rows_verdict s) amount
  pass_short i n amount g e h l = pass_stop n amount (rw e at g) (cut_short n h) refl (omega arith)

  -- behind the last row, where nothing is left
  pub pass_all : (i id service : ℕ) {a : ℕ} → first_bad (row_ok s) i ≡ None → a ≡ sum_with (dispatch_row s) id service i → i ≡ length s / 16 → length s ≤ i * 16 → Ok a ≡ cost_if (rows_verdict s) (sum_with (dispatch_row s) id service (rows_in s))
  unfolding rows_verdict at_record cost_if
  pass_all i id service g d e l =
      let n : i ≡ rows_in s = omega arith in
      rw (← first_all (row_ok s) i (rows_in s) g n, ← n, d)

-- ---- a base cost, from the sum of its id and service: c is what was found

amountless_is : (v : Verdict) (sum : ℕ) → amountless (cost_if v sum) ≡ cost_if v 0
unfolding amountless cost_if
amountless_is (Ok _) sum = refl
amountless_is (Err _) sum = refl

module _ (s : List ℕ) (id service : ℕ) {c : Result ℕ Refusal} (e : c ≡ cost_if (rows_verdict s) (sum_with (dispatch_row s) id service (rows_in s))) where
  pub base_none : {n : Result ℕ Refusal} → id ≡ 0 → n ≡ amountless c → n ≡ base_cost s id service
  unfolding base_cost
  base_none z q = rw (eq-eqb id 0 z) (q ∙ ap amountless e ∙ amountless_is (rows_verdict s) _)

  pub base_found : (id ≡ 0 → ⊥) → c ≡ base_cost s id service
  unfolding base_cost
  base_found z = rw (ne_eqb id 0 z) e
