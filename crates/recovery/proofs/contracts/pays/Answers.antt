-- `recovery::contracts::pays` meets its contract. The invariant: the sum is what the first i rows pay. Assumes nothing.
use native.Mathlib.Omega.{arith}
use Rattle.sections.proofs.Total.{total_none, total_all}
use Rattle.recovery.proofs.Payments.{pay_more, pay_small}
use Rattle.recovery.proofs.contracts.pays.Goals as goal

pub loop-i-init : goal.loop-i-init
loop-i-init c = total_none _

pub loop-i-preserved : goal.loop-i-preserved
loop-i-preserved c = pay_more c.requires.all_payable _ c.loop-i.invariant c.energy_row.ensures c.row_pays-sum.ensures

pub overflow_add-sum : goal.overflow_add-sum
overflow_add-sum c = omega (arith, pay_small c.requires.all_payable _ (omega arith) (loop-i-preserved c))

pub returns : goal.returns
returns c = (total_all _ _ _ c.loop-i.invariant (omega arith), pay_small c.requires.all_payable _ (omega arith) c.loop-i.invariant)
