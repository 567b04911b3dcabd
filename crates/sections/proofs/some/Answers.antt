-- `sections::some` meets its contract. The invariant: whether one of the records so far passes. Assumes nothing.
use Rattle.sections.proofs.Search.{some_start, some_more}
use Rattle.sections.proofs.some.Goals as goal

pub loop-record-init : goal.loop-record-init
loop-record-init g c t a = some_start t

pub loop-record-preserved : goal.loop-record-preserved
loop-record-preserved g c t a = some_more t _ (c.loop-record.invariant t a) (a _ _ c.loop-record-test.true c.test-found.ensures)
