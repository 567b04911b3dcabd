-- `count::own_rows` meets its contract. Of each row the account's test is a number. Assumes nothing.
use mathlib.Core.Path.{refl}
use native.Mathlib.Omega.{arith}
use Rattle.std.proofs.Common.{of_calls}
use Rattle.count.proofs.Counting.{own_told}
use Rattle.count.proofs.own_rows.Goals as goal

pub returns : goal.returns
returns c = (
  c.sum.ensures.total _ (λ u x l e. (own_told _ _ u refl (search (of_calls, e))).0),
  omega (arith, c.sum.ensures.bound 1 (λ u x l e. search (of_calls, e))),
)
