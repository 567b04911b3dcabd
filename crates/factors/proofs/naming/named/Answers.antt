-- `factors::naming::named` meets its contract. The place of the key decides: behind all constraints none has it, else the one there has it or none. Assumes nothing.
use native.Mathlib.Omega.{arith}
use Rattle.sections.proofs.Walk.{sought_none, sought_here}
use Rattle.factors.specs.Naming.{named_at}
use Rattle.factors.proofs.naming.named.Goals as goal

pub returns-then-c-n : goal.returns-then-c-n
unfolding named_at
returns-then-c-n c = sought_none _ _ _ _ _ c.requires.sought c.if-c-n.true

pub returns : goal.returns
unfolding named_at
returns c = rw (c.constraint_row-r.ensures, c.unit_row-q.ensures) (sought_here _ _ _ _ _ c.requires.rises c.requires.sought (omega (arith, c.requires.sought.high)))
