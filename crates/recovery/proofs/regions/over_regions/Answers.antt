-- `recovery::regions::over_regions` meets its contract. The part is the one over the constraint's regions. Assumes nothing.
use Rattle.recovery.proofs.Sharing.{over_shareable, over_is}
use Rattle.recovery.proofs.regions.over_regions.Goals as goal

pub shared-requires : goal.shared-requires
shared-requires c = over_shareable c.args.e.sound _ _ _ c.requires.0 c.part_over.ensures c.requires.1.0 c.requires.1.1

pub returns : goal.returns
returns c = over_is c.args.e.sound _ _ _ c.requires.0 c.part_over.ensures c.shared.ensures
