-- Fields one behind the other: what is put in runs of columns is the row. Assumes nothing.
use Prim.Native.Nat.{ℕ, zero, suc, ◌+◌, ◌≤◌, ◌<◌}
use mathlib.Core.Path.{◌≡◌}
use mathlib.Core.Logic.{⊎_elim}
use mathlib.Core.List.{List, ◌++◌, append-nil, append_assoc}
use native.Mathlib.Omega.{arith}
use native.Mathlib.Nat.{add-zero, add-suc}
use native.Mathlib.Numerals.{add-one}
use lib.ListN.{length, length-append}
use Rattle.sections.proofs.Search.{lt_or_ge}
use Rattle.columns.specs.Columns.{cell_text}
use Rattle.nmas.specs.Rows.{fields_text}
use Rattle.nmas.specs.Inner.Cells.{fields_run}
use Rattle.nmas.specs.Inner.Puts.{InTurn}

module _ (field : ℕ → ℕ) where
  pub one_more : (n : ℕ) → fields_text field (n + 1) ≡ fields_text field n ++ cell_text n (field n)
  unfolding fields_text
  one_more n = rw add-one

  -- fewer fields are no longer than more
  pub longer : (n m : ℕ) → n ≤ m → length (fields_text field n) ≤ length (fields_text field m)
  unfolding fields_text
  longer n zero h = let e : n ≡ 0 = omega arith in rw e (omega arith)
  longer n (suc m) h =
      ⊎_elim (λ l. omega (arith, longer n m (omega arith), length-append (fields_text field m) (cell_text m (field m))))
      (λ l. let e : n ≡ suc m = omega arith in rw e (omega arith))
      (lt_or_ge n (suc m))

  -- the first a fields, and the n behind them
  pub fields_join : (a n : ℕ) → fields_text field (a + n) ≡ fields_text field a ++ fields_run field a n
  unfolding fields_text fields_run
  fields_join a zero = rw (add-zero, append-nil)
  fields_join a (suc n) = rw (add-suc, fields_join a n, append_assoc)

  -- the row's three runs
  pub row_runs : fields_text field 17 ≡ (fields_run field 0 6 ++ fields_run field 6 5) ++ fields_run field 11 6
  unfolding fields_text
  row_runs = rw (fields_join 11 6, fields_join 6 5, fields_join 0 6)

-- ---- fields that are put one behind the other, in runs

module _ (field : ℕ → ℕ) {room : List ℕ → ℕ → List ℕ → Type 0} {puts : List ℕ → ℕ → List ℕ → List ℕ → ℕ → Type 0} (turn : InTurn room puts) where
  module _ (a : ℕ) where
    pub run_none : (l : List ℕ) (k : ℕ) → puts l k (fields_run field a 0) l k
    unfolding fields_run
    run_none l k = turn.none l k

    module _ (n : ℕ) {l : List ℕ} {k : ℕ} {b : List ℕ} {m : ℕ} (w : puts l k (fields_run field a n) b m) where
      pub run_room : (t : ℕ) → n < t → room l k (fields_run field a t) → room b m (cell_text (a + n) (field (a + n)))
      unfolding fields_run
      run_room zero h r = absurd (omega arith)
      run_room (suc t) h r =
          ⊎_elim (λ p. run_room t p (turn.first _ _ _ _ r))
          (λ p. let e : t ≡ n = omega arith in turn.rest _ _ _ _ _ _ (rw e at r) w)
          (lt_or_ge n t)

      pub run_on : {d : List ℕ} {e : ℕ} → puts b m (cell_text (a + n) (field (a + n))) d e → puts l k (fields_run field a (n + 1)) d e
      unfolding fields_run
      run_on v = rw add-one (turn.more _ _ _ _ _ _ _ _ w v)

  -- ---- the row of its three runs

  module _ (l : List ℕ) (k : ℕ) (r : room l k (fields_text field 17)) where
    runs_room : room l k ((fields_run field 0 6 ++ fields_run field 6 5) ++ fields_run field 11 6)
    runs_room = rw (row_runs field) at r

    pub front_room : room l k (fields_run field 0 6)
    front_room = turn.first _ _ _ _ (turn.first _ _ _ _ runs_room)

    module _ {a : List ℕ} {m : ℕ} (w : puts l k (fields_run field 0 6) a m) where
      pub middle_room : room a m (fields_run field 6 5)
      middle_room = turn.rest _ _ _ _ _ _ (turn.first _ _ _ _ runs_room) w

      module _ {b : List ℕ} {n : ℕ} (v : puts a m (fields_run field 6 5) b n) where
        pub rest_room : room b n (fields_run field 11 6)
        rest_room = turn.rest _ _ _ _ _ _ runs_room (turn.more _ _ _ _ _ _ _ _ w v)

        pub row_put : {d : List ℕ} {e : ℕ} → puts b n (fields_run field 11 6) d e → puts l k (fields_text field 17) d e
        row_put u = rw (row_runs field) (turn.more _ _ _ _ _ _ _ _ (turn.more _ _ _ _ _ _ _ _ w v) u)
