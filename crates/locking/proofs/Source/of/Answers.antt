-- `locking::Source::of` meets its contract. The kind decides. Assumes nothing.
use borrow.Author.Tests.{eq-eqb, ne_eqb}
use Rattle.locking.specs.Locking.{source_of}
use Rattle.locking.proofs.Source.of.Goals as goal

pub returns-then-kind-eq2 : goal.returns-then-kind-eq2
unfolding source_of
returns-then-kind-eq2 c = rw (eq-eqb _ 2 c.if-kind-eq2.true)

pub returns : goal.returns
unfolding source_of
returns c = rw (ne_eqb _ 2 c.if-kind-eq2.false)
