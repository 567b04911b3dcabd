-- `cutoffs::constraints::unit` meets its contract. The unit rows stand in the book, and what they cut off is summed over the constraint's own. Assumes nothing.
use mir.Syntax.{w64}
use mir.Facts.{to_z-of_z}
use borrow.Author.Rules.{sfits_of}
use Rattle.book.specs.Laid.{book_at}
use Rattle.balance.proofs.Resting.{constraint_rule}
use Rattle.recovery.proofs.Sharing.{recovery_small}
use Rattle.cutoffs.proofs.Made.{unit_is}
use Rattle.cutoffs.proofs.constraints.unit.Goals as goal

pub unit_cut-requires : goal.unit_cut-requires
unit_cut-requires c = let known = c.requires.sound in
    record { m_in_bounds = (c.units.ensures.long, (recovery_small _ _ (constraint_rule known _ c.requires.of_constraint) c.recovery_of-x.ensures).pool); walked = rw c.units.ensures.bytes (record { few = known.few.units; rules = known.fields.units; keep = record { keep = known.ordered.units.first } }) }

pub returns : goal.returns
returns c = rw (to_z-of_z {w = w64} (sfits_of c.unit_cut.type_inv))
    (unit_is (book_at c.args.book.now) _ _ c.recovery_of-x.ensures (rw c.units.ensures.bytes at c.unit_cut.ensures))
