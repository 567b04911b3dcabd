-- The lines of one constraint: one line in mode 0, else those of its unit rows and of its residual. Assumes nothing.
use Prim.Native.Nat.{ℕ, ◌+◌, ◌≤◌, ◌<◌}
use mathlib.Core.Path.{◌≡◌, sym, ap, ◌∙◌}
use mathlib.Core.List.{List, [], ◌∷◌, ◌++◌}
use borrow.Author.Tests.{eq-eqb, ne_eqb}
use lib.ListN.{length, length-append}
use native.Mathlib.Omega.{arith}
use native.Mathlib.Nat.{le_of_lt}
use Rattle.sections.specs.Inner.Walk.{Stands, Past}
use Rattle.records.specs.declared.rows.Constraint.{Constraint}
use Rattle.records.specs.declared.rows.UnitRow.{UnitRow}
use Rattle.factors.specs.Naming.{key_of}
use Rattle.amounts.specs.Pools.{pools_of, residual_pools}
use Rattle.amounts.specs.declared.pools.Pools.{Pools}
use Rattle.amounts.specs.declared.pools.Residual.{Residual}
use Rattle.accounts.specs.Rows.{joined}
use Rattle.statement.specs.declared.Line.{Line}
use Rattle.lines.specs.Lines.{contingency_line, rest_lines}
use Rattle.emission.specs.Inner.Emitted.{Emitted, LineRoom}
use Rattle.emission.proofs.Emission.{emitted_more, room_less, room_rest}
use Rattle.lines.specs.Inner.Walks.{unit_lines_at, con_lines}
use Rattle.units.specs.Inner.Done.{UnitsDone, LinesDone}
use Rattle.units.specs.declared.Cursor.{Cursor}

-- a cursor at the first row of a key that no row has stands behind its rows too
pub no_rows : (key : ℕ → ℕ) (m k u : ℕ) → Stands key m k u → ((i : ℕ) → i < m → key i ≡ k → ⊥) → Past key m k u
no_rows key m k u s none =
    record {
      high = s.high;
      under = λ i h. le_of_lt (s.under i h);
      over = λ i a b. strict (key i) k (s.over i a b) (none i b);
    }
  where
    strict : (a b : ℕ) → b ≤ a → (a ≡ b → ⊥) → b < a
    strict a b h d = omega arith

module _ (unit : ℕ → UnitRow) (m account : ℕ) (r : Constraint) (o total : ℕ) {l : List ℕ} {t : ℕ} where
  -- ---- mode 0

  pub plain_room : r.mode ≡ 0 → LineRoom l t (length (con_lines unit m account r o total)) → LineRoom l t 1
  unfolding con_lines
  plain_room e h = rw (eq-eqb _ _ e) at h

  pub plain_done : (from : ℕ) {line : Line} {b : List ℕ} {x : ℕ} → r.mode ≡ 0 → Past (key_of unit) m r.id from → line ≡ contingency_line r o total → Emitted l t (line ∷ []) b x → LinesDone unit m r (con_lines unit m account r o total) l t b (record { next = from; place = x })
  unfolding con_lines
  plain_done from e a f h = record { past = a; out = rw (eq-eqb _ _ e) (rw f at h) }

-- ---- the other modes

module _ (unit : ℕ → UnitRow) (m account : ℕ) (r : Constraint) (o total : ℕ) {p : Pools} (d : r.mode ≡ 0 → ⊥) (e : p ≡ pools_of r) where
  parts : con_lines unit m account r o total ≡ joined (unit_lines_at unit account r p) m ++ rest_lines r (residual_pools r p) o total
  unfolding con_lines
  parts = rw (ne_eqb _ _ d, e)

  count : length (joined (unit_lines_at unit account r p) m) + length (rest_lines r (residual_pools r p) o total) ≡ length (con_lines unit m account r o total)
  count = sym (ap length parts ∙ length-append (joined (unit_lines_at unit account r p) m) (rest_lines r (residual_pools r p) o total))

  module _ {l : List ℕ} {t : ℕ} where
    pub units_room : LineRoom l t (length (con_lines unit m account r o total)) → LineRoom l t (length (joined (unit_lines_at unit account r p) m))
    units_room h = room_less _ _ (first_part _ _ count) h
      where
        first_part : (a b : ℕ) {c : ℕ} → a + b ≡ c → a ≤ c
        first_part a b q = omega arith

    module _ {a : List ℕ} {x : Cursor} {y : Residual} (u : UnitsDone unit m account r p l t a x) (f : y ≡ residual_pools r p) where
      pub rest_room : LineRoom l t (length (con_lines unit m account r o total)) → LineRoom a x.place (length (rest_lines r y o total))
      rest_room h = rw f (room_rest (joined (unit_lines_at unit account r p) m) _ (rw (← count) at h) u.out)

      pub rest_done : {b : List ℕ} {z : ℕ} → Emitted a x.place (rest_lines r y o total) b z → LinesDone unit m r (con_lines unit m account r o total) l t b (record { next = x.next; place = z })
      rest_done h = record { past = u.past; out = rw parts (emitted_more _ _ u.out (rw f at h)) }
