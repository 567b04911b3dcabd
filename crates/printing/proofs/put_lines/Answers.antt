-- `printing::put_lines` meets its contract: no line has more than 53 bytes, so that the rest have room. Assumes nothing.
use Rattle.parsing.proofs.Laid.{laid_none, laid_more}
use Rattle.printing.proofs.Turns.{text_pieces, listed_room}
use Rattle.printing.proofs.put_lines.Goals as goal

pub loop-i-init : goal.loop-i-init
loop-i-init c = laid_none text_pieces _ _ _

pub put_line-e-requires : goal.put_line-e-requires
put_line-e-requires c = listed_room _ _ _ _ c.loop-i.invariant _ c.line_at.ensures (λ i. (c.type_inv.s i).fits) _ c.loop-i-test.true c.requires.1

pub loop-i-preserved : goal.loop-i-preserved
loop-i-preserved c = let line = c.put_line-e.ensures in
    laid_more text_pieces _ _ _ _ c.loop-i.invariant _ _ c.line_at.ensures line.bytes line.next
