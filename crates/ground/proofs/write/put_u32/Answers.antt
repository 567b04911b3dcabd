-- `ground::write::put_u32` meets its contract. The bytes that std gives, copied to their place. Assumes nothing.
use mathlib.Core.Path.{refl, ◌∙◌}
use Rattle.ground.specs.Le.{le32}
use Rattle.ground.proofs.Le.{le32_is}
use Rattle.ground.proofs.Put.{put_copied}
use Rattle.ground.proofs.write.put_u32.Goals as goal

pub returns : goal.returns
unfolding le32
returns c = put_copied _ _ 4 (c.copy_from_slice.ensures.after ∙ c.to_le_bytes.ensures ∙ le32_is c.args.v) refl c.requires
