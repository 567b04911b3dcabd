-- `factors::naming::names` meets its contract. The invariant: no row so far is refused, and each id before the cursor is below the next key. The next key is no smaller, so the cursor stays right. Assumes nothing.
use mathlib.Core.Path.{ap}
use mathlib.Core.Bool.{not}
use native.Mathlib.Omega.{arith}
use borrow.Author.Count.{below_none}
use borrow.Author.Rules.{rules}
use Rattle.sections.proofs.First.{first_none, first_more, first_stop}
use Rattle.sections.proofs.Walk.{under_later}
use Rattle.factors.proofs.naming.names.Goals as goal

pub loop-u-init : goal.loop-u-init
loop-u-init c = (search rules, (first_none _, λ l. below_none _))

pub returns-then-not-named : goal.returns-then-not-named
returns-then-not-named c = first_stop _ _ _ c.loop-u.invariant.1.0 c.named.ensures (ap not c.if-not-named.true) (search rules)

pub loop-u-preserved : goal.loop-u-preserved
loop-u-preserved c = (
  c.seek-c.ensures.high,
  (
    first_more _ _ c.loop-u.invariant.1.0 c.named.ensures (ap not c.if-not-named.false),
    λ l. under_later _ _ _ _ c.seek-c.ensures.under (rw c.unit_row-q.ensures (c.requires.keeps.keep _ _ (omega arith) l)),
  ),
)
