-- `parsing::lines_hold` meets its contract. Assumes nothing.
use Rattle.sections.proofs.Search.{all_none, all_more}
use Rattle.parsing.proofs.lines_hold.Goals as goal

pub loop-i-init : goal.loop-i-init
loop-i-init c = all_none _

pub loop-i-preserved : goal.loop-i-preserved
loop-i-preserved c = all_more _ _ c.loop-i.invariant c.line_holds-holds.ensures
