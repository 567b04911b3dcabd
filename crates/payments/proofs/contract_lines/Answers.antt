-- `payments::contract_lines` meets its contract. The invariant: the lines of the regions so far are out. Assumes nothing.
use Rattle.emission.proofs.Loops.{out_start, out_room, out_more}
use Rattle.payments.proofs.contract_lines.Goals as goal

pub loop-g-init : goal.loop-g-init
loop-g-init c = out_start _

pub region_lines-end-requires-clause-line_room : goal.region_lines-end-requires-clause-line_room
region_lines-end-requires-clause-line_room c = out_room _ _ c.loop-g.invariant _ c.loop-g-test.true c.requires.line_room

pub loop-g-preserved : goal.loop-g-preserved
loop-g-preserved c = out_more _ _ c.loop-g.invariant c.region_lines-end.ensures
