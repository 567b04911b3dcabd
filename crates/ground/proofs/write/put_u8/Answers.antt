-- `ground::write::put_u8` meets its contract. One store is a put of one byte. Assumes nothing.
use Rattle.ground.proofs.Put.{put_one}
use Rattle.ground.proofs.write.put_u8.Goals as goal

pub returns : goal.returns
returns c = put_one _ _ _
