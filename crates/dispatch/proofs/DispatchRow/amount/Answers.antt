-- `dispatch::DispatchRow::amount` meets its contract. A product of two numbers of 32 bits leaves room for half of the divisor. Assumes nothing.
use mathlib.Core.Path.{◌∙◌, ap}
use Rattle.numbers.specs.Round.{round_n}
use Rattle.dispatch.specs.Dispatch.{amount_of}
use Rattle.dispatch.proofs.DispatchRow.amount.Goals as goal

pub returns : goal.returns
unfolding amount_of
returns c = c.nearest.ensures.whole ∙ ap (λ n. round_n n 12) c.product.ensures
