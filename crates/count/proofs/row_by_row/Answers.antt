-- `count::row_by_row` meets its contract. The invariant, `MetAt`: the lines of the rows so far are counted, and no id before the cursor is as large as a later row's key. Assumes nothing.
use Rattle.count.proofs.Counting.{met_start}
use Rattle.count.proofs.row_by_row.Goals as goal

pub loop-u-init : goal.loop-u-init
loop-u-init c = met_start _ _ _ _ _
