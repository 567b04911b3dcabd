-- What a search for a line answers, and what it rests on.
use Rattle.std.specs.Prelude.{ℕ, ◌<◌, ◌≡◌, cond, List, [], ◌∷◌, eqb, Result, Ok, Err}
use Rattle.ground.specs.Nth.{found, past, nth}
use Rattle.sections.specs.Inner.Walk.{Past}
use Rattle.rules.specs.Inner.Facts.{EntryRule, ConstraintRule}
use Rattle.records.specs.declared.rows.Entry.{Entry}
use Rattle.records.specs.declared.rows.Constraint.{Constraint}
use Rattle.records.specs.declared.rows.UnitRow.{UnitRow}
use Rattle.factors.specs.Naming.{key_of}
use Rattle.totals.specs.Divisors.{over_regions}
use Rattle.totals.specs.Inner.Totals.{entry_of}
use Rattle.totals.specs.declared.entries.Totals.{Totals}
use Rattle.amounts.specs.Pools.{pools_of, residual_pools}
use Rattle.statement.specs.declared.Line.{Line}
use Rattle.lines.specs.Lines.{contingency_line, rest_lines}
use Rattle.lines.specs.Inner.Shared.{Shared}
use Rattle.lookup.specs.declared.constraint.Passed.{Passed}

-- an answer is that of the number among lines ls of constraint r, and where they are passed, the search stands behind its unit rows
unfoldable pub SoughtIn : (ℕ → UnitRow) → ℕ → Constraint → List Line → ℕ → Result Line Passed → Type 0
SoughtIn unit m r ls number (Ok l) = nth ls number ≡ found l
SoughtIn unit m r ls number (Err p) = Past (key_of unit) m r.id p.row × (nth ls number ≡ past p.left)

-- the lines that a constraint has besides those of its unit rows; o and t are the account's energy and the total over its regions
unfoldable pub other_lines : Constraint → ℕ → ℕ → List Line
other_lines r o t = cond (eqb r.mode 0) (contingency_line r o t ∷ []) (rest_lines r (residual_pools r (pools_of r)) o t)

-- what making a constraint's line rests on
pub record Rests (entry : ℕ → Entry) (r : Constraint) (own : Totals) : Type 0 where
  pub rule : ConstraintRule r
  pub entries : (g : ℕ) → g < 5 → EntryRule (entry g)
  pub energy : (g : ℕ) → g < 5 → EntryRule (entry_of own g)
  pub shared : Shared (over_regions (entry_of own) r) (over_regions entry r)

-- no unit row names a constraint of mode 0
pub record Bare (unit : ℕ → UnitRow) (m : ℕ) (r : Constraint) : Type 0 where
  pub none : r.mode ≡ 0 → (u : ℕ) → u < m → key_of unit u ≡ r.id → ⊥
