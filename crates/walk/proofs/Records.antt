-- What each constraint and each contract rests on, and its lines out. Assumes nothing.
use Prim.Native.Nat.{ℕ, ◌<◌}
use mathlib.Core.Path.{◌≡◌}
use mathlib.Core.List.{List}
use lib.ListN.{length}
use Rattle.ground.specs.Bytes.{part_from}
use Rattle.records.specs.Rows.{entry_row}
use Rattle.records.specs.declared.rows.Entry.{Entry}
use Rattle.records.specs.declared.rows.Constraint.{Constraint}
use Rattle.records.specs.declared.rows.UnitRow.{UnitRow}
use Rattle.records.specs.declared.rows.Contract.{Contract}
use Rattle.totals.specs.Divisors.{over_regions}
use Rattle.totals.specs.Inner.Totals.{entry_of}
use Rattle.totals.specs.declared.entries.Totals.{Totals}
use Rattle.locking.specs.Locking.{source_of, pick}
use Rattle.locking.specs.Inner.Handed.{Handed}
use Rattle.locking.specs.declared.Source.{Source}
use Rattle.accounts.specs.Rows.{joined}
use Rattle.accounts.specs.declared.energies.OwnEnergies.{OwnEnergies}
use Rattle.lines.specs.Lines.{region_lines}
use Rattle.lines.specs.Inner.Walks.{con_lines, Settles, con_lines_at, Ready, contract_lines_at, settled_lines, totals_from, own_from}
use Rattle.lines.proofs.Picked.{lines_in_lem}
use Rattle.emission.specs.Inner.Emitted.{Emitted, LineRoom}
use Rattle.units.specs.Inner.Done.{LinesDone}
use Rattle.units.specs.declared.Cursor.{Cursor}

-- ---- constraints; r is constraint j, o the account's energy over its regions and t that of all

module _ (entry : ℕ → Entry) (con : ℕ → Constraint) (n : ℕ) (unit : ℕ → UnitRow) (m account : ℕ) (own : Totals) (j : ℕ) {r : Constraint} {o t : ℕ} (e : r ≡ con j) (c : o ≡ over_regions (entry_of own) r) (d : t ≡ over_regions entry r) where
  pub settles_at : Ready entry con n unit m own → j < n → Settles unit m r o t
  settles_at h l = record { rule = rw e (h.rules j l); bare = rw e (h.bare j l); shared = rw (c, d, e) (h.shared j l) }

  lines_at : con_lines unit m account r o t ≡ con_lines_at entry con unit m account own j
  unfolding con_lines_at
  lines_at = rw (c, d, e)

  pub con_room : {l : List ℕ} {k : ℕ} → LineRoom l k (length (con_lines_at entry con unit m account own j)) → LineRoom l k (length (con_lines unit m account r o t))
  con_room h = rw lines_at h

  pub con_out : {l : List ℕ} {k : ℕ} {b : List ℕ} {x : Cursor} → LinesDone unit m r (con_lines unit m account r o t) l k b x → Emitted l k (con_lines_at entry con unit m account own j) b x.place
  con_out h = rw lines_at at h.out

-- ---- contract k; r is the energy section that was handed back, and t the account's energies in the same book

module _ {b l r : List ℕ} {s : Source} (h : Handed s b l r) (own : OwnEnergies) (k : Contract) {t : Totals} (e : s ≡ source_of k.kind) (f : t ≡ pick s own.current own.locked) where
  pub room_in : {x : List ℕ} {p : ℕ} → LineRoom x p (length (settled_lines (entry_row (part_from 24 b)) (entry_row (part_from 24 l)) own k)) → LineRoom x p (length (joined (region_lines (entry_row r) (entry_of t) k) 5))
  room_in w = rw (lines_in_lem h own k e f) w

  pub out_in : {x y : List ℕ} {p q : ℕ} → Emitted x p (joined (region_lines (entry_row r) (entry_of t) k) 5) y q → Emitted x p (settled_lines (entry_row (part_from 24 b)) (entry_row (part_from 24 l)) own k) y q
  out_in w = rw (lines_in_lem h own k e f) at w

-- ---- contract i

module _ (current locked : ℕ → Entry) (own : OwnEnergies) (contract : ℕ → Contract) (i : ℕ) {k : Contract} (e : k ≡ contract i) {l : List ℕ} {t : ℕ} where
  pub contract_room : LineRoom l t (length (contract_lines_at (totals_from current locked) (own_from own) contract i)) → LineRoom l t (length (settled_lines current locked own k))
  unfolding contract_lines_at
  contract_room h = rw e h

  pub contract_out : {b : List ℕ} {y : ℕ} → Emitted l t (settled_lines current locked own k) b y → Emitted l t (contract_lines_at (totals_from current locked) (own_from own) contract i) b y
  unfolding contract_lines_at
  contract_out h = rw e at h
