-- What a unit row gives of a constraint's lines: nothing, where it names another, and else those of its own account. Assumes nothing.
use Prim.Native.Nat.{ℕ}
use mathlib.Core.Path.{◌≡◌}
use mathlib.Core.List.{[]}
use borrow.Author.Tests.{eq-eqb, ne_eqb}
use Rattle.records.specs.declared.rows.Constraint.{Constraint}
use Rattle.records.specs.declared.rows.UnitRow.{UnitRow}
use Rattle.factors.specs.Naming.{key_of}
use Rattle.amounts.specs.declared.pools.Pools.{Pools}
use Rattle.lines.specs.Inner.Walks.{own_lines, unit_lines_at}

module _ (unit : ℕ → UnitRow) (account : ℕ) (r : Constraint) (p : Pools) (u : ℕ) where
  pub other_row : (key_of unit u ≡ r.id → ⊥) → unit_lines_at unit account r p u ≡ []
  unfolding unit_lines_at
  other_row d = rw (ne_eqb _ _ d)

  pub this_row : {q : UnitRow} → q ≡ unit u → q.constraint ≡ r.id → unit_lines_at unit account r p u ≡ own_lines account r p q
  unfolding unit_lines_at
  this_row e k = rw (eq-eqb _ _ (rw e at k), e)
