-- Check 7. 01, Refusals, 7: "a unit row names no constraint here, or one of mode 0".
use Rattle.std.specs.Prelude.{ℕ, Bool, ◌&&◌, not, eqb}
use Rattle.sections.specs.Search.{some}
use Rattle.records.specs.declared.rows.Constraint.{Constraint}
use Rattle.records.specs.declared.rows.UnitRow.{UnitRow}

abbrev pub id_of : (ℕ → Constraint) → ℕ → ℕ
id_of con j = (con j).id

abbrev pub key_of : (ℕ → UnitRow) → ℕ → ℕ
key_of unit u = (unit u).constraint

-- one of the n constraints has the row's id and a mode other than 0
unfoldable pub named_at : (ℕ → Constraint) → ℕ → (ℕ → UnitRow) → ℕ → Bool
named_at con n unit u = some (λ j. eqb (id_of con j) (key_of unit u) && not (eqb (con j).mode 0)) n
