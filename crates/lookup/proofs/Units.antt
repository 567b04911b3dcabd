-- A search among the lines of a constraint's unit rows, row by row: before its run there are none, and after it no more. Assumes nothing.
use Prim.Native.Nat.{ℕ, ◌+◌, ◌-◌, ◌≤◌, ◌<◌}
use mathlib.Core.Path.{◌≡◌, refl, sym, ap, ◌∙◌}
use mathlib.Core.Bool.{Bool, true, false, cond}
use mathlib.Core.List.{List, []}
use lib.Dec.{eqb}
use lib.ListN.{length}
use native.Mathlib.Omega.{arith}
use Rattle.std.specs.Prelude.{Ok, Err}
use Rattle.ground.specs.Nth.{found, past, nth}
use Rattle.sections.specs.Inner.Walk.{Stands, Past}
use Rattle.sections.proofs.Walk.{Run, run_start, run_next, run_stop, run_done}
use Rattle.records.specs.declared.rows.Constraint.{Constraint}
use Rattle.records.specs.declared.rows.UnitRow.{UnitRow}
use Rattle.factors.specs.Naming.{key_of}
use Rattle.factors.specs.Inner.Runs.{Walked}
use Rattle.amounts.specs.Pools.{pools_of}
use Rattle.accounts.specs.Rows.{joined}
use Rattle.accounts.proofs.Joined.{joined_nothing, joined_rest}
use Rattle.statement.specs.declared.Line.{Line}
use Rattle.lines.specs.Lines.{unit_lines}
use Rattle.groups.specs.Inner.Each.{each_of}
use Rattle.lines.specs.Inner.Walks.{own_lines, unit_lines_at}
use Rattle.groups.proofs.Numbering.{choice_length, unit_length}
use Rattle.lines.proofs.UnitRows.{other_row, this_row}
use Rattle.lookup.specs.Inner.Sought.{SoughtIn}
use Rattle.lookup.proofs.Joined.{pass_length, found_in}

-- ---- one row, of which there are k lines

module _ (account : ℕ) (r : Constraint) (q : UnitRow) {each k : ℕ} (e : each ≡ each_of r) (f : k ≡ cond (eqb q.account account) each 0) where
  own_length : k ≡ length (own_lines account r (pools_of r) q)
  unfolding own_lines
  own_length = f ∙ rw e (sym (choice_length (eqb q.account account) _ [] ∙ ap (λ (x : ℕ). cond (eqb q.account account) x 0) (unit_length r (pools_of r) q)))

  -- a row that has a line is the account's
  module _ (left : ℕ) (l : left < k) where
    mine : eqb q.account account ≡ true
    mine = by (eqb q.account account) refl (rw f at l)
      where
        by : (t : Bool) → eqb q.account account ≡ t → left < cond t each 0 → eqb q.account account ≡ true
        by true t h = t
        by false t h = absurd (none h)
          where
            none : left < 0 → ⊥
            none h = omega arith

    own_all : own_lines account r (pools_of r) q ≡ unit_lines r (pools_of r) q
    unfolding own_lines
    own_all = rw mine

    pub in_row : left < length (unit_lines r (pools_of r) q)
    in_row = rw (← own_all) (rw own_length at l)

    pub row_found : {x : Line} → nth (unit_lines r (pools_of r) q) left ≡ found x → nth (own_lines account r (pools_of r) q) left ≡ found x
    row_found h = rw own_all h

-- ---- a run of rows

module _ (unit : ℕ → UnitRow) (m account : ℕ) (r : Constraint) (number : ℕ) where
  abbrev of_row : ℕ → List Line
  of_row = unit_lines_at unit account r (pools_of r)

  -- how far the run is, and what is left of the number
  pub record Seeking (left u : ℕ) : Type 0 where
    pub run : Run (key_of unit) m r.id u
    pub passed : nth (joined of_row u) number ≡ past left

  done : (left u : ℕ) → Seeking left u → Past (key_of unit) m r.id u → SoughtIn unit m r (joined of_row m) number (Err (record { row = u; left = left }))
  unfolding SoughtIn
  done left u h a =
      (a, rw (← joined_rest of_row u m a.high (λ k i j. other_row unit account r (pools_of r) k (λ (e : key_of unit k ≡ r.id). omega (arith, a.over k i j)))) h.passed)

  pub seek_start : (u : ℕ) → Stands (key_of unit) m r.id u → Seeking number u
  unfolding nth
  seek_start u s =
      record {
        run = run_start _ m r.id u s;
        passed = rw (joined_nothing of_row u (λ k h. other_row unit account r (pools_of r) k (λ (e : key_of unit k ≡ r.id). omega (arith, s.under k h))));
      }

  pub seek_done : (left u : ℕ) → Seeking left u → m ≤ u → SoughtIn unit m r (joined of_row m) number (Err (record { row = m; left = left }))
  seek_done left u h k = let e : u ≡ m = omega (arith, h.run.high) in rw e at (done left u h (run_done _ m r.id u h.run e))

  module _ (left u : ℕ) {q : UnitRow} (h : Seeking left u) (j : u < m) (e : q ≡ unit u) where
    pub seek_stop : Walked unit m → (q.constraint ≡ r.id → ⊥) → SoughtIn unit m r (joined of_row m) number (Err (record { row = u; left = left }))
    seek_stop o d = done left u h (run_stop _ m r.id u o.keep h.run j (rw e at d))

    module _ (same : q.constraint ≡ r.id) {each k : ℕ} (f : each ≡ each_of r) (g : k ≡ cond (eqb q.account account) each 0) where
      pub seek_more : k ≤ left → Seeking (left - k) (u + 1)
      seek_more l =
          record {
            run = run_next _ m r.id u h.run j (rw e at same);
            passed = pass_length of_row number u h.passed (rw (this_row unit account r (pools_of r) u e same) (own_length account r q f g)) l;
          }

      pub seek_found : {x : Line} → left < k → nth (unit_lines r (pools_of r) q) left ≡ found x → SoughtIn unit m r (joined of_row m) number (Ok x)
      unfolding SoughtIn
      seek_found l n = found_in of_row number u h.passed m j (rw (this_row unit account r (pools_of r) u e same) (row_found account r q f g left l n))
