-- `statement::put_heading` meets its contract: five puts end to end make the header's 24 bytes. Assumes nothing.
use mathlib.Core.Path.{refl}
use Rattle.ground.specs.Le.{le16, le32}
use Rattle.ground.proofs.Put.{put_more}
use Rattle.statement.specs.Statement.{rcs, heading_bytes}
use Rattle.statement.proofs.put_heading.Goals as goal

pub returns : goal.returns
unfolding heading_bytes rcs le16 le32
returns c = record {
  bytes =
      put_more _ _ _ _
      (put_more _ _ _ _
      (put_more _ _ _ _ (put_more _ _ _ _ c.put_opening.ensures c.put_period.ensures) c.put_u16.ensures)
      c.put_u32.ensures)
      c.put_u32-2.ensures;
  next = refl;
}
