-- No second result fits what the lines of a constraint leave behind. Assumes nothing.
use Prim.Native.Nat.{ℕ}
use mathlib.Core.Path.{◌≡◌, sym, ap₂, ◌∙◌}
use mathlib.Core.List.{List}
use Rattle.sections.proofs.Walk.{past_once}
use Rattle.records.specs.declared.rows.Constraint.{Constraint}
use Rattle.records.specs.declared.rows.UnitRow.{UnitRow}
use Rattle.factors.specs.Naming.{key_of}
use Rattle.statement.specs.declared.Line.{Line}
use Rattle.units.specs.Inner.Done.{LinesDone}
use Rattle.units.specs.declared.Cursor.{Cursor}

pub done_once : (unit : ℕ → UnitRow) (m : ℕ) (r : Constraint) (ls : List Line) (l : List ℕ) (k : ℕ) {b d : List ℕ} {x y : Cursor} → LinesDone unit m r ls l k b x → LinesDone unit m r ls l k d y → (x ≡ y) × (b ≡ d)
done_once unit m r ls l k {x = x} {y = y} p q = (
  ap₂ cursor (past_once (key_of unit) m r.id x.next y.next p.past q.past) (p.out.next ∙ sym q.out.next),
  p.out.bytes ∙ sym q.out.bytes,
)
  where
    cursor : ℕ → ℕ → Cursor
    cursor next place = record { next = next; place = place }
