-- `market::Region::first_in` meets its contract: the lowest set bit is that of the first region. Assumes nothing.
use native.Mathlib.Omega.{arith}
use Rattle.market.proofs.Walk.{first_and_behind, behind_is_less, not_nothing}
use Rattle.market.proofs.Region.first_in.Goals as goal

pub overflow_sub-rest : goal.overflow_sub-rest
overflow_sub-rest c = not_nothing c.args.mask c.requires

pub returns : goal.returns
returns c = (first_and_behind c.args.mask (omega arith) c.requires, behind_is_less c.args.mask (omega arith) c.requires)
