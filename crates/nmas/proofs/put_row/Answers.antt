-- `nmas::put_row` meets its contract. Three runs of fields are the row. Assumes nothing.
use Rattle.nmas.specs.Inner.Cells.{held}
use Rattle.nmas.proofs.Fields.{front_room, middle_room, rest_room, row_put}
use Rattle.nmas.proofs.put_row.Goals as goal

pub put_front-middle-requires : goal.put_front-middle-requires
put_front-middle-requires g c = record { by_index = c.requires.by_index; fields_in_bounds = front_room (held c.args.fields.now) g.met.P.Puts.in_turn c.args.text.now c.args.at c.requires.fields_in_bounds }

pub put_middle-rest-requires : goal.put_middle-rest-requires
put_middle-rest-requires g c = record { by_index = c.requires.by_index; fields_in_bounds = middle_room (held c.args.fields.now) g.met.P.Puts.in_turn c.args.text.now c.args.at c.requires.fields_in_bounds c.put_front-middle.ensures }

pub put_rest-requires : goal.put_rest-requires
put_rest-requires g c = record { by_index = c.requires.by_index; fields_in_bounds = rest_room (held c.args.fields.now) g.met.P.Puts.in_turn c.args.text.now c.args.at c.requires.fields_in_bounds c.put_front-middle.ensures c.put_middle-rest.ensures }

pub returns : goal.returns
returns g c = row_put (held c.args.fields.now) g.met.P.Puts.in_turn c.args.text.now c.args.at c.requires.fields_in_bounds c.put_front-middle.ensures c.put_middle-rest.ensures c.put_rest.ensures
