-- `census::unit_accounts` meets its contract. The invariant: the rows so far stand in the tree, and the count is the number of their accounts. Assumes nothing.
use native.Mathlib.Omega.{arith}
use Rattle.census.proofs.Counting.{count_none, count_seen, count_few}
use Rattle.census.proofs.unit_accounts.Goals as goal

pub loop-u-init : goal.loop-u-init
loop-u-init c = (count_none _ _, c.requires.grown)

pub loop-u-preserved : goal.loop-u-preserved
loop-u-preserved c = (count_seen _ _ c.loop-u.invariant.0 c.new_unit-count.ensures.value, c.new_unit-count.ensures.grown_2)

pub overflow_add-count : goal.overflow_add-count
overflow_add-count c = omega (arith, count_few _ _ _ (loop-u-preserved c).0)
