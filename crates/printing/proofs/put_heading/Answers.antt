-- `printing::put_heading` meets its contract: five numbers, each behind its word, and the line feed. Assumes nothing.
use Rattle.ground.proofs.Put.{wrote_more}
use Rattle.words.proofs.Rooms.{space_front, space_first, space_rest}
use Rattle.printing.specs.Printing.{heading_pieces, heading_text}
use Rattle.printing.proofs.put_heading.Goals as goal

pub put_named-account-requires : goal.put_named-account-requires
unfolding heading_text
put_named-account-requires c = space_first (space_front (heading_pieces c.args.h) c.args.text.now c.requires)

pub put_named-date-requires : goal.put_named-date-requires
unfolding heading_text
put_named-date-requires c = space_first (space_rest (space_front (heading_pieces c.args.h) c.args.text.now c.requires) c.put_named-account.ensures)

pub put_named-interval-requires : goal.put_named-interval-requires
unfolding heading_text
put_named-interval-requires c = space_first (space_rest (space_rest (space_front (heading_pieces c.args.h) c.args.text.now c.requires) c.put_named-account.ensures) c.put_named-date.ensures)

pub put_named-run-requires : goal.put_named-run-requires
unfolding heading_text
put_named-run-requires c = space_first (space_rest (space_rest (space_rest (space_front (heading_pieces c.args.h) c.args.text.now c.requires) c.put_named-account.ensures) c.put_named-date.ensures) c.put_named-interval.ensures)

pub put_named-lines-requires : goal.put_named-lines-requires
unfolding heading_text
put_named-lines-requires c = space_first (space_rest (space_rest (space_rest (space_rest (space_front (heading_pieces c.args.h) c.args.text.now c.requires) c.put_named-account.ensures) c.put_named-date.ensures) c.put_named-interval.ensures) c.put_named-run.ensures)

pub put_byte-requires : goal.put_byte-requires
unfolding heading_text
put_byte-requires c = space_first (space_rest (space_rest (space_rest (space_rest (space_rest (space_front (heading_pieces c.args.h) c.args.text.now c.requires) c.put_named-account.ensures) c.put_named-date.ensures) c.put_named-interval.ensures) c.put_named-run.ensures) c.put_named-lines.ensures)

pub returns : goal.returns
unfolding heading_text
returns c = wrote_more c.put_named-account.ensures (wrote_more c.put_named-date.ensures (wrote_more c.put_named-interval.ensures (wrote_more c.put_named-run.ensures (wrote_more c.put_named-lines.ensures c.put_byte.ensures))))
