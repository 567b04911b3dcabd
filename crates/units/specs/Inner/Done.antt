-- A constraint's lines written, and where the walk over the unit rows stands then.
use Rattle.std.specs.Prelude.{ℕ, List}
use Rattle.sections.specs.Inner.Walk.{Past}
use Rattle.records.specs.declared.rows.Constraint.{Constraint}
use Rattle.records.specs.declared.rows.UnitRow.{UnitRow}
use Rattle.factors.specs.Naming.{key_of}
use Rattle.amounts.specs.declared.pools.Pools.{Pools}
use Rattle.accounts.specs.Rows.{joined}
use Rattle.statement.specs.declared.Line.{Line}
use Rattle.lines.specs.Inner.Walks.{unit_lines_at}
use Rattle.emission.specs.Inner.Emitted.{Emitted}
use Rattle.units.specs.declared.Cursor.{Cursor}

-- the lines ls of constraint r are out, and the cursor stands behind its unit rows
pub record LinesDone (unit : ℕ → UnitRow) (m : ℕ) (r : Constraint) (ls : List Line) (l : List ℕ) (k : ℕ) (b : List ℕ) (x : Cursor) : Type 0 where
  pub past : Past (key_of unit) m r.id x.next
  pub out : Emitted l k ls b x.place

-- so are those of its unit rows
abbrev pub UnitsDone : (ℕ → UnitRow) → ℕ → ℕ → Constraint → Pools → List ℕ → ℕ → List ℕ → Cursor → Type 0
UnitsDone unit m account r p l k b x = LinesDone unit m r (joined (unit_lines_at unit account r p) m) l k b x
