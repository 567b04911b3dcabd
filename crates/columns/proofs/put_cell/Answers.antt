-- `columns::put_cell` meets its contract. The field, and then the byte behind it. Assumes nothing.
use Rattle.columns.proofs.Forms.{fits, room_spelled, room_end, wrote_cell}
use Rattle.columns.proofs.put_cell.Goals as goal

pub put_spelled-e-requires : goal.put_spelled-e-requires
put_spelled-e-requires c = let e = c.of.ensures in
    record { x_bound = rw e (fits c.args.column c.args.x c.requires.column_bound.0 c.requires.column_bound.1); x_in_bounds = room_spelled c.args.column c.args.x e c.args.text.now _ c.requires.x_in_bounds }

pub put_byte-requires : goal.put_byte-requires
put_byte-requires c = room_end c.args.column c.args.x c.of.ensures c.requires.x_in_bounds c.put_spelled-e.ensures

pub returns : goal.returns
returns c = wrote_cell c.args.column c.args.x c.of.ensures c.put_spelled-e.ensures c.end_of.ensures c.put_byte.ensures
