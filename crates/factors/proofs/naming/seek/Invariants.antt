-- `factors::naming::seek` meets its contract. The invariant: each id so far is below the key. Assumes nothing.
use Rattle.sections.specs.Inner.Walk.{Under}
use Rattle.records.specs.Rows.{constraint_row}
use Rattle.factors.specs.Naming.{id_of}
use Rattle.factors.proofs.naming.seek.Given as goal

abbrev pub invariant-loop-c : goal.invariant-loop-c
invariant-loop-c l = Under (id_of (constraint_row l.cons)) l.c l.key
