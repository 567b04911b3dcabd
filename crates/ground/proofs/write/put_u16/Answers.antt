-- `ground::write::put_u16` meets its contract. The bytes that std gives, copied to their place. Assumes nothing.
use mathlib.Core.Path.{refl, ◌∙◌}
use Rattle.ground.specs.Le.{le16}
use Rattle.ground.proofs.Le.{le16_is}
use Rattle.ground.proofs.Put.{put_copied}
use Rattle.ground.proofs.write.put_u16.Goals as goal

pub returns : goal.returns
unfolding le16
returns c = put_copied _ _ 2 (c.copy_from_slice.ensures.after ∙ c.to_le_bytes.ensures ∙ le16_is c.args.v) refl c.requires
