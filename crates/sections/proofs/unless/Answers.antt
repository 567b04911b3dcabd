-- `sections::unless` meets its contract. The test decides. Assumes nothing.
use Rattle.sections.specs.Refusal.{unless}
use Rattle.sections.proofs.unless.Goals as goal

pub returns-then-holds : goal.returns-then-holds
unfolding unless
returns-then-holds c = rw c.if-holds.true

pub returns-else-holds : goal.returns-else-holds
unfolding unless
returns-else-holds c = rw c.if-holds.false
