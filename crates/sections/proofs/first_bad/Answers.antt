-- `sections::first_bad` meets its contract. The invariant: no record so far is refused. Assumes nothing.
use mathlib.Core.Path.{ap}
use mathlib.Core.Bool.{not}
use Rattle.sections.proofs.First.{first_none, first_more, first_stop}
use Rattle.sections.proofs.first_bad.Goals as goal

pub loop-i-init : goal.loop-i-init
loop-i-init g c t a = first_none t

pub returns-then-not-test-clause-first : goal.returns-then-not-test-clause-first
returns-then-not-test-clause-first g c t a = first_stop t _ _ (c.loop-i.invariant t a) (a _ _ c.loop-i-test.true c.test.ensures) (ap not c.if-not-test.true) c.loop-i-test.true

pub loop-i-preserved : goal.loop-i-preserved
loop-i-preserved g c t a = first_more t _ (c.loop-i.invariant t a) (a _ _ c.loop-i-test.true c.test.ensures) (ap not c.if-not-test.false)
