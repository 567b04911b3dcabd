-- `printing::put_refusal` meets its contract: the number, the place and the line feed, each behind the one before. Assumes nothing.
use Rattle.ground.proofs.Put.{wrote_more}
use Rattle.words.proofs.Rooms.{space_first, space_rest}
use Rattle.printing.specs.Printing.{refusal_text}
use Rattle.printing.proofs.Lengths.{refusal_space, said_refusal}
use Rattle.printing.proofs.put_refusal.Goals as goal

pub put_named-n-requires : goal.put_named-n-requires
unfolding refusal_text
put_named-n-requires c = space_first (refusal_space c.args.number c.args.place c.ranges.number.fits c.ranges.place.fits c.args.text.now c.requires)

pub put_named-p-requires : goal.put_named-p-requires
unfolding refusal_text
put_named-p-requires c = space_first (space_rest (refusal_space c.args.number c.args.place c.ranges.number.fits c.ranges.place.fits c.args.text.now c.requires) c.put_named-n.ensures)

pub put_byte-requires : goal.put_byte-requires
unfolding refusal_text
put_byte-requires c = space_first (space_rest (space_rest (refusal_space c.args.number c.args.place c.ranges.number.fits c.ranges.place.fits c.args.text.now c.requires) c.put_named-n.ensures) c.put_named-p.ensures)

pub returns : goal.returns
unfolding refusal_text
returns c = said_refusal c.args.number c.args.place c.ranges.number.fits c.ranges.place.fits c.args.text.now c.requires
    (wrote_more c.put_named-n.ensures (wrote_more c.put_named-p.ensures c.put_byte.ensures))
