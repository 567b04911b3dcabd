-- `ground::write::put_i64` meets its contract. The bytes of the bits. Assumes nothing.
use mir.Facts.{to_z-of_z}
use Rattle.ground.specs.Le.{int64}
use Rattle.ground.proofs.write.put_i64.Goals as goal

pub returns : goal.returns
unfolding int64
returns c = rw (c.bits64.ensures, to_z-of_z c.ranges.x) at c.put_u64.ensures
