-- `count::other_lines` meets its contract. No constraint has more than three besides. Assumes nothing.
use native.Mathlib.Omega.{arith}
use Rattle.std.proofs.Common.{of_calls}
use Rattle.count.proofs.other_lines.Goals as goal

pub returns : goal.returns
returns c = (
  c.sum.ensures.total _ (λ j x l e. search (of_calls, e)),
  omega (arith, c.sum.ensures.bound 3 (λ j x l e. search (of_calls, e)), c.requires.1),
)
