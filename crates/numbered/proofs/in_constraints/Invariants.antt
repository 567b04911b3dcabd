-- `numbered::in_constraints` meets its contract. The invariant: the lines of the constraints so far are passed, and the search stands at the first row of the next one, since each row names a constraint and the ids rise. Assumes nothing.
use Prim.Native.Nat.{◌<◌}
use mathlib.Core.Path.{◌≡◌}
use Rattle.ground.specs.Nth.{past, nth}
use Rattle.sections.specs.Inner.Walk.{Stands}
use Rattle.records.specs.Rows.{entry_row, constraint_row, unit_row}
use Rattle.factors.specs.Naming.{id_of, key_of}
use Rattle.accounts.specs.Rows.{joined}
use Rattle.lines.specs.Inner.Walks.{con_lines_at}
use Rattle.numbered.proofs.in_constraints.Given as goal

abbrev pub invariant-loop-j : goal.invariant-loop-j
invariant-loop-j l = (nth (joined (con_lines_at (entry_row l.regions) (constraint_row l.cons) (unit_row l.units) l.m l.account l.own) l.j) l.number ≡ past l.left) × (l.j < l.n → Stands (key_of (unit_row l.units)) l.m (id_of (constraint_row l.cons) l.j) l.row)
