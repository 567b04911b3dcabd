-- `factors::sums::factors` meets its contract. The invariant: no constraint so far is refused, and the cursor stands at the first row of the next one, since each row names a constraint and the ids rise. Assumes nothing.
use mathlib.Core.Path.{ap}
use mathlib.Core.Bool.{not}
use borrow.Author.Rules.{rules}
use Rattle.sections.proofs.First.{first_none, first_more, first_stop}
use Rattle.sections.proofs.Walk.{stands_first, stands_next}
use Rattle.factors.specs.Inner.Runs.{plus, minus, default}
use Rattle.factors.proofs.Runs.{run_small, factors_is}
use Rattle.factors.proofs.sums.factors.Goals as goal

pub loop-j-init : goal.loop-j-init
loop-j-init c = (first_none _, λ l. stands_first _ _ _ _ c.requires.rises c.requires.names l)

pub sums_ok-requires : goal.sums_ok-requires
sums_ok-requires c = let h = run_small _ _ _ c.requires.walked c.run-t.ensures in (h plus, (h minus, h default))

pub returns-then-not-sums_ok : goal.returns-then-not-sums_ok
returns-then-not-sums_ok c = first_stop _ _ _ c.loop-j.invariant.0 (factors_is _ _ _ _ c.constraint_row-r.ensures c.run-t.ensures c.sums_ok.ensures) (ap not c.if-not-sums_ok.true) (search rules)

pub loop-j-preserved : goal.loop-j-preserved
loop-j-preserved c = (
  first_more _ _ c.loop-j.invariant.0 (factors_is _ _ _ _ c.constraint_row-r.ensures c.run-t.ensures c.sums_ok.ensures) (ap not c.if-not-sums_ok.false),
  λ l. stands_next _ _ _ _ c.requires.rises c.requires.names _ _ (rw c.constraint_row-r.ensures at c.run-t.ensures.past) l,
)
