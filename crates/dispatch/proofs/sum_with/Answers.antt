-- `dispatch::sum_with` meets its contract. The test decides; an amount is small enough for a sum. Assumes nothing.
use native.Mathlib.Omega.{arith}
use borrow.Author.Rules.{rules}
use Rattle.dispatch.proofs.Rows.{amount_small}
use Rattle.dispatch.proofs.sum_with.Goals as goal

pub overflow_add-result : goal.overflow_add-result
overflow_add-result c = omega (arith, c.amount.ensures, c.requires, amount_small c.args.r (search rules) (search rules))
