-- The lines of a constraint's unit rows, row by row: before its run there are none, and after it no more. Assumes nothing.
use Prim.Native.Nat.{ℕ, ◌+◌, ◌<◌}
use mathlib.Core.Path.{◌≡◌}
use mathlib.Core.List.{List}
use borrow.Author.Tests.{eq-eqb, ne_eqb}
use lib.ListN.{length}
use native.Mathlib.Omega.{arith}
use Rattle.sections.specs.Inner.Walk.{Stands, Past}
use Rattle.sections.proofs.Walk.{Run, run_start, run_next, run_stop}
use Rattle.records.specs.declared.rows.Constraint.{Constraint}
use Rattle.records.specs.declared.rows.UnitRow.{UnitRow}
use Rattle.factors.specs.Naming.{key_of}
use Rattle.factors.specs.Inner.Runs.{Walked}
use Rattle.amounts.specs.declared.pools.Pools.{Pools}
use Rattle.accounts.specs.Rows.{joined}
use Rattle.accounts.proofs.Joined.{joined_more, joined_room, joined_nothing, joined_rest}
use Rattle.lines.specs.Lines.{unit_lines}
use Rattle.emission.specs.Inner.Emitted.{Emitted, LineRoom}
use Rattle.emission.proofs.Emission.{emitted_none, emitted_more, room_less, room_rest}
use Rattle.lines.specs.Inner.Walks.{own_lines, unit_lines_at}
use Rattle.lines.proofs.UnitRows.{other_row, this_row}
use Rattle.units.specs.Inner.Done.{UnitsDone}

-- ---- one row

module _ (account : ℕ) (r : Constraint) (p : Pools) (q : UnitRow) {l : List ℕ} {t : ℕ} where
  pub own_skip : (q.account ≡ account → ⊥) → Emitted l t (own_lines account r p q) l t
  unfolding own_lines
  own_skip d = rw (ne_eqb _ _ d) (emitted_none l t)

  pub own_room : q.account ≡ account → LineRoom l t (length (own_lines account r p q)) → LineRoom l t (length (unit_lines r p q))
  unfolding own_lines
  own_room e h = rw (eq-eqb _ _ e) at h

  pub own_out : {b : List ℕ} {x : ℕ} → q.account ≡ account → Emitted l t (unit_lines r p q) b x → Emitted l t (own_lines account r p q) b x
  unfolding own_lines
  own_out e h = rw (eq-eqb _ _ e) h

-- ---- a run of rows

module _ (unit : ℕ → UnitRow) (m account : ℕ) (r : Constraint) (p : Pools) where
  -- how far the run is, and what is out
  pub record Running (l : List ℕ) (t : ℕ) (b : List ℕ) (u : ℕ) (x : ℕ) : Type 0 where
    pub run : Run (key_of unit) m r.id u
    pub out : Emitted l t (joined (unit_lines_at unit account r p) u) b x

  module _ {l : List ℕ} {t : ℕ} where
    done : (u : ℕ) (b : List ℕ) (x : ℕ) → Running l t b u x → Past (key_of unit) m r.id u → UnitsDone unit m account r p l t b (record { next = u; place = x })
    done u b x h a =
        record {
          past = a;
          out = rw (← joined_rest (unit_lines_at unit account r p) u m a.high (λ k i j. other_row unit account r p k (λ (e : key_of unit k ≡ r.id). omega (arith, a.over k i j)))) h.out;
        }

    pub running_start : (u : ℕ) → Stands (key_of unit) m r.id u → Running l t l u t
    running_start u s =
        record {
          run = run_start _ m r.id u s;
          out = rw (joined_nothing (unit_lines_at unit account r p) u (λ k h. other_row unit account r p k (λ (e : key_of unit k ≡ r.id). omega (arith, s.under k h)))) (emitted_none l t);
        }

    module _ (u : ℕ) {b : List ℕ} {x : ℕ} {q : UnitRow} (h : Running l t b u x) (j : u < m) (e : q ≡ unit u) where
      pub running_room : q.constraint ≡ r.id → LineRoom l t (length (joined (unit_lines_at unit account r p) m)) → LineRoom b x (length (own_lines account r p q))
      running_room k o =
          rw (← this_row unit account r p u e k)
          (room_rest _ _ (room_less _ _ (joined_room (unit_lines_at unit account r p) u m j) o) h.out)

      pub running_more : {a : List ℕ} {y : ℕ} → q.constraint ≡ r.id → Emitted b x (own_lines account r p q) a y → Running l t a (u + 1) y
      running_more k n =
          record {
            run = run_next _ m r.id u h.run j (rw e at k);
            out = rw (← joined_more (unit_lines_at unit account r p) u) (emitted_more _ _ h.out (rw (← this_row unit account r p u e k) at n));
          }

      pub running_stop : Walked unit m → (q.constraint ≡ r.id → ⊥) → UnitsDone unit m account r p l t b (record { next = u; place = x })
      running_stop o d = done u b x h (run_stop _ m r.id u o.keep h.run j (rw e at d))
