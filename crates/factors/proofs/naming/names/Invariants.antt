-- `factors::naming::names` meets its contract. The invariant: no row so far is refused, and each id before the cursor is below the next key. The next key is no smaller, so the cursor stays right. Assumes nothing.
use Prim.Native.Nat.{◌≤◌, ◌<◌}
use mathlib.Core.Path.{◌≡◌}
use Rattle.sections.specs.First.{first_bad}
use Rattle.sections.specs.Inner.Walk.{Under}
use Rattle.std.specs.Prelude.{None}
use Rattle.records.specs.Rows.{constraint_row, unit_row}
use Rattle.factors.specs.Naming.{id_of, key_of, named_at}
use Rattle.factors.proofs.naming.names.Given as goal

abbrev pub invariant-loop-u : goal.invariant-loop-u
invariant-loop-u l = (l.c ≤ l.n) × ((first_bad (named_at (constraint_row l.cons) l.n (unit_row l.units)) l.u ≡ None) × (l.u < l.m → Under (id_of (constraint_row l.cons)) l.c (key_of (unit_row l.units) l.u)))
