-- `reading::rewriting::put_lines` meets its contract. Assumes nothing.
use native.Mathlib.Omega.{arith}
use Rattle.statement.proofs.Lines.{line_length}
use Rattle.parsing.proofs.Laid.{laid_none, laid_more}
use Rattle.reading.proofs.Pieces.{line_pieces_lem}
use Rattle.reading.proofs.rewriting.put_lines.Goals as goal

pub loop-i-init : goal.loop-i-init
loop-i-init c = laid_none line_pieces_lem _ _ 24

pub loop-i-preserved : goal.loop-i-preserved
loop-i-preserved c = let line = c.line_at in
    laid_more line_pieces_lem _ _ 24 _ c.loop-i.invariant _ _ line.ensures c.put_line.ensures.bytes (omega (arith, line_length line.result))
