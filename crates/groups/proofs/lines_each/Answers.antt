-- `groups::lines_each` meets its contract. The mode decides. Assumes nothing.
use native.Mathlib.Omega.{arith}
use borrow.Author.Tests.{eq-eqb, ne_eqb}
use Rattle.groups.specs.Inner.Each.{each_of}
use Rattle.groups.proofs.lines_each.Goals as goal

pub returns-then-r-eq-FACTORED : goal.returns-then-r-eq-FACTORED
unfolding each_of
returns-then-r-eq-FACTORED c = (rw (eq-eqb _ _ c.if-r-eq-FACTORED.true), omega arith)

pub returns-else-r-eq-FACTORED : goal.returns-else-r-eq-FACTORED
unfolding each_of
returns-else-r-eq-FACTORED c = (rw (ne_eqb _ _ c.if-r-eq-FACTORED.false), omega arith)
