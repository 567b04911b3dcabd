-- `factors::sums::factors` meets its contract. The invariant: no constraint so far is refused, and the cursor stands at the first row of the next one, since each row names a constraint and the ids rise. Assumes nothing.
use Prim.Native.Nat.{◌<◌}
use mathlib.Core.Path.{◌≡◌}
use Rattle.sections.specs.First.{first_bad}
use Rattle.sections.specs.Inner.Walk.{Stands}
use Rattle.std.specs.Prelude.{None}
use Rattle.records.specs.Rows.{constraint_row, unit_row}
use Rattle.factors.specs.Factors.{factors_at}
use Rattle.factors.specs.Naming.{id_of, key_of}
use Rattle.factors.proofs.sums.factors.Given as goal

abbrev pub invariant-loop-j : goal.invariant-loop-j
invariant-loop-j l =
    (first_bad (factors_at (unit_row l.units) l.m (constraint_row l.cons)) l.j ≡ None)
    × (l.j < l.n → Stands (key_of (unit_row l.units)) l.m (id_of (constraint_row l.cons) l.j) l.u)
