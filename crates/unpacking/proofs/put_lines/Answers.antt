-- `unpacking::put_lines` meets its contract. Assumes nothing.
use native.Mathlib.Omega.{arith}
use Rattle.parsing.proofs.Laid.{laid_none, laid_more}
use Rattle.unpacking.proofs.Fields.{fields_length, fields_pieces}
use Rattle.unpacking.proofs.put_lines.Goals as goal

pub loop-i-init : goal.loop-i-init
loop-i-init c = laid_none fields_pieces _ _ 0

pub loop-i-preserved : goal.loop-i-preserved
loop-i-preserved c = let line = c.line_at in
    laid_more fields_pieces _ _ 0 _ c.loop-i.invariant _ _ line.ensures c.put_fields.ensures (omega (arith, fields_length line.result))
