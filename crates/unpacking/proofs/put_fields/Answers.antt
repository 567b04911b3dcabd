-- `unpacking::put_fields` meets its contract: five puts end to end make the line's 40 bytes; the amount fits, so its bits are its own. Assumes nothing.
use mir.Syntax.{w64}
use mir.Facts.{to_z-of_z}
use Rattle.ground.specs.Le.{le64, int64}
use Rattle.ground.proofs.Put.{put_more}
use Rattle.unpacking.specs.Unpacking.{fields_bytes}
use borrow.Author.Rules.{rules}
use Rattle.unpacking.proofs.put_fields.Goals as goal

pub returns : goal.returns
unfolding fields_bytes le64 int64
returns c = put_more _ _ _ _
    (put_more _ _ _ _
    (put_more _ _ _ _ (put_more _ _ _ _ c.put_u64.ensures c.put_u64-2.ensures) c.put_u64-3.ensures)
    c.put_u64-4.ensures)
    (rw (to_z-of_z {w = w64} {z = c.args.line.amount} (search rules)) at c.put_i64.ensures)
