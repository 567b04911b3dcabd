-- `count::constraints` meets its contract. The unit rows' lines, and then the others. Assumes nothing.
use Rattle.count.proofs.Counting.{constraints_counted}
use Rattle.count.proofs.constraints.Goals as goal

pub returns : goal.returns
returns c = constraints_counted _ _ _ _ _ c.requires.countable c.unit_lines.ensures c.other_lines.ensures.0 c.other_lines.ensures.1
