-- `statement::put_period` meets its contract: three puts end to end. Assumes nothing.
use Rattle.ground.specs.Le.{le16, le32}
use Rattle.ground.proofs.Put.{put_more}
use Rattle.statement.proofs.put_period.Goals as goal

pub returns : goal.returns
unfolding le16 le32
returns c = put_more _ _ _ _ (put_more _ _ _ _ c.put_u16.ensures c.put_u32.ensures) c.put_u16-2.ensures
