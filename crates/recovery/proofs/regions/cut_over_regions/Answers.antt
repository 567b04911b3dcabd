-- `recovery::regions::cut_over_regions` meets its contract. The part is the one over the constraint's regions. Assumes nothing.
use mir.Syntax.{w64}
use mir.Facts.{to_z-of_z}
use borrow.Author.Rules.{sfits_of}
use Rattle.recovery.proofs.Sharing.{over_shareable, cut_is}
use Rattle.recovery.proofs.regions.cut_over_regions.Goals as goal

pub shared_cut-requires : goal.shared_cut-requires
shared_cut-requires c = over_shareable c.args.e.sound _ _ _ c.requires.0 c.part_over.ensures c.requires.1.0 c.requires.1.1

pub returns : goal.returns
returns c = rw (to_z-of_z {w = w64} (sfits_of c.shared_cut.type_inv))
    (cut_is c.args.e.sound _ _ _ c.requires.0 c.part_over.ensures c.shared_cut.ensures)
