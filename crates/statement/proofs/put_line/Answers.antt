-- `statement::put_line` meets its contract: three puts end to end make the line's 24 bytes; the amount fits, so its bits are its own.
-- Assumes nothing.
use mathlib.Core.Path.{refl}
use mir.Syntax.{w64}
use mir.Facts.{to_z-of_z}
use Rattle.ground.specs.Le.{le16, le32, le64, int64}
use Rattle.ground.proofs.Put.{put_more}
use Rattle.statement.specs.Statement.{line_bytes}
use borrow.Author.Rules.{rules}
use Rattle.statement.proofs.put_line.Goals as goal

pub returns : goal.returns
unfolding line_bytes le16 le32 le64 int64
returns c = record {
  bytes =
      put_more _ _ _ _
      (put_more _ _ _ _ c.put_names.ensures c.put_unit.ensures)
      (rw (to_z-of_z {w = w64} {z = c.args.line.amount} (search rules)) at c.put_i64.ensures);
  next = refl;
}
