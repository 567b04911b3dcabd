-- `printing::put_line` meets its contract: id, part, regions, unit, dollars and the line feed, each behind the one before. Assumes nothing.
use mir.Syntax.{w64}
use mir.Facts.{to_z-of_z}
use borrow.Author.Rules.{rules}
use Rattle.ground.proofs.Put.{wrote_more}
use Rattle.words.proofs.Rooms.{space, space_first, space_rest}
use Rattle.printing.specs.Printing.{line_pieces, line_text}
use Rattle.printing.proofs.put_line.Goals as goal

pub put_whole-id-requires : goal.put_whole-id-requires
unfolding line_text
put_whole-id-requires c = space_first (space (line_pieces c.args.l) c.args.text.now c.args.at c.requires)

pub put_named-part-requires : goal.put_named-part-requires
unfolding line_text
put_named-part-requires c = space_first (space_rest (space (line_pieces c.args.l) c.args.text.now c.args.at c.requires) c.put_whole-id.ensures)

pub put_named-regions-requires : goal.put_named-regions-requires
unfolding line_text
put_named-regions-requires c = space_first (space_rest (space_rest (space (line_pieces c.args.l) c.args.text.now c.args.at c.requires) c.put_whole-id.ensures) c.put_named-part.ensures)

pub put_named-unit-requires : goal.put_named-unit-requires
unfolding line_text
put_named-unit-requires c = space_first (space_rest (space_rest (space_rest (space (line_pieces c.args.l) c.args.text.now c.args.at c.requires) c.put_whole-id.ensures) c.put_named-part.ensures) c.put_named-regions.ensures)

pub put_byte-blank-requires : goal.put_byte-blank-requires
unfolding line_text
put_byte-blank-requires c = space_first (space_rest (space_rest (space_rest (space_rest (space (line_pieces c.args.l) c.args.text.now c.args.at c.requires) c.put_whole-id.ensures) c.put_named-part.ensures) c.put_named-regions.ensures) c.put_named-unit.ensures)

pub put_signed-dollars-requires : goal.put_signed-dollars-requires
unfolding line_text
put_signed-dollars-requires c = rw (to_z-of_z {w = w64} {z = c.args.l.amount} (search rules)) (space_first (space_rest (space_rest (space_rest (space_rest (space_rest (space (line_pieces c.args.l) c.args.text.now c.args.at c.requires) c.put_whole-id.ensures) c.put_named-part.ensures) c.put_named-regions.ensures) c.put_named-unit.ensures) c.put_byte-blank.ensures))

pub put_byte-requires : goal.put_byte-requires
unfolding line_text
put_byte-requires c = space_first (space_rest (space_rest (space_rest (space_rest (space_rest (space_rest (space (line_pieces c.args.l) c.args.text.now c.args.at c.requires) c.put_whole-id.ensures) c.put_named-part.ensures) c.put_named-regions.ensures) c.put_named-unit.ensures) c.put_byte-blank.ensures) (rw (to_z-of_z {w = w64} {z = c.args.l.amount} (search rules)) at c.put_signed-dollars.ensures))

pub returns : goal.returns
unfolding line_text
returns c = wrote_more c.put_whole-id.ensures (wrote_more c.put_named-part.ensures (wrote_more c.put_named-regions.ensures (wrote_more c.put_named-unit.ensures (wrote_more c.put_byte-blank.ensures (wrote_more (rw (to_z-of_z {w = w64} {z = c.args.l.amount} (search rules)) at c.put_signed-dollars.ensures) c.put_byte.ensures)))))
