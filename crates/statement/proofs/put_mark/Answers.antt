-- `statement::put_mark` meets its contract. The letters, copied to their place. Assumes nothing.
use mathlib.Core.Path.{refl}
use Rattle.ground.proofs.Put.{put_copied}
use Rattle.statement.specs.Statement.{rcs}
use Rattle.statement.proofs.put_mark.Goals as goal

pub returns : goal.returns
unfolding rcs
returns c = put_copied _ 0 3 c.copy_from_slice.ensures.after refl c.requires
