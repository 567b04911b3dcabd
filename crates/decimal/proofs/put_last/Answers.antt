-- `decimal::put_last` meets its contract. The invariant: the digits behind the free places stand. Assumes nothing.
use Rattle.decimal.proofs.Writing.{behind_none, behind_pair, behind_one}
use Rattle.decimal.proofs.put_last.Goals as goal

pub loop-free-init : goal.loop-free-init
loop-free-init c = behind_none

pub loop-free-preserved : goal.loop-free-preserved
loop-free-preserved c = behind_pair c.loop-free.invariant c.loop-free-test.true c.put_pair.ensures

pub returns-then-free-eq1 : goal.returns-then-free-eq1
returns-then-free-eq1 c = behind_one c.loop-free.invariant c.if-free-eq1.true c.digit.ensures c.put_u8.ensures
