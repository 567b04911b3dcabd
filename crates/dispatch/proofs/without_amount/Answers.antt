-- `dispatch::without_amount` meets its contract. The case decides. Assumes nothing.
use Rattle.std.proofs.lemmas.Grind.{common_steps}
use Rattle.std.proofs.Common.{arith}
use Rattle.dispatch.specs.Inner.Pass.{amountless}
use Rattle.dispatch.proofs.without_amount.Goals as goal

pub returns : goal.returns
unfolding amountless
returns c = grind (arith, common_steps)
