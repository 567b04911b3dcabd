-- `sections::all` meets its contract. The invariant: whether each of the records so far passes. Assumes nothing.
use Rattle.sections.proofs.Search.{all_none, all_more}
use Rattle.sections.proofs.all.Goals as goal

pub loop-record-init : goal.loop-record-init
loop-record-init g c t a = all_none t

pub loop-record-preserved : goal.loop-record-preserved
loop-record-preserved g c t a = all_more t _ (c.loop-record.invariant t a) (a _ _ c.loop-record-test.true c.test-passed.ensures)
