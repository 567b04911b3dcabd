-- `nmas::put_front` meets its contract. Field after field, each behind the last. Assumes nothing.
use native.Mathlib.Omega.{arith}
use Rattle.nmas.specs.Inner.Cells.{held}
use Rattle.nmas.proofs.Fields.{run_none, run_room, run_on}
use Rattle.nmas.proofs.put_front.Goals as goal

pub put_cell-v-requires : goal.put_cell-v-requires
put_cell-v-requires g c = let field = held c.args.fields.now in
    let turn = g.met.P.Puts.in_turn in
    record { column_bound = (omega arith, c.requires.by_index 0 (omega arith)); x_in_bounds = run_room field turn 0 0 (run_none field turn 0 c.args.text.now c.args.at) 6 (omega arith) c.requires.fields_in_bounds }

pub put_cell-w-requires : goal.put_cell-w-requires
put_cell-w-requires g c = let field = held c.args.fields.now in
    let turn = g.met.P.Puts.in_turn in
    record { column_bound = (omega arith, c.requires.by_index 1 (omega arith)); x_in_bounds = run_room field turn 0 1 (run_on field turn 0 0 (run_none field turn 0 c.args.text.now c.args.at) c.put_cell-v.ensures) 6 (omega arith) c.requires.fields_in_bounds }

pub put_cell-x-requires : goal.put_cell-x-requires
put_cell-x-requires g c = let field = held c.args.fields.now in
    let turn = g.met.P.Puts.in_turn in
    record { column_bound = (omega arith, c.requires.by_index 2 (omega arith)); x_in_bounds = run_room field turn 0 2 (run_on field turn 0 1 (run_on field turn 0 0 (run_none field turn 0 c.args.text.now c.args.at) c.put_cell-v.ensures) c.put_cell-w.ensures) 6 (omega arith) c.requires.fields_in_bounds }

pub put_cell-y-requires : goal.put_cell-y-requires
put_cell-y-requires g c = let field = held c.args.fields.now in
    let turn = g.met.P.Puts.in_turn in
    record { column_bound = (omega arith, c.requires.by_index 3 (omega arith)); x_in_bounds = run_room field turn 0 3 (run_on field turn 0 2 (run_on field turn 0 1 (run_on field turn 0 0 (run_none field turn 0 c.args.text.now c.args.at) c.put_cell-v.ensures) c.put_cell-w.ensures) c.put_cell-x.ensures) 6 (omega arith) c.requires.fields_in_bounds }

pub put_cell-z-requires : goal.put_cell-z-requires
put_cell-z-requires g c = let field = held c.args.fields.now in
    let turn = g.met.P.Puts.in_turn in
    record { column_bound = (omega arith, c.requires.by_index 4 (omega arith)); x_in_bounds = run_room field turn 0 4 (run_on field turn 0 3 (run_on field turn 0 2 (run_on field turn 0 1 (run_on field turn 0 0 (run_none field turn 0 c.args.text.now c.args.at) c.put_cell-v.ensures) c.put_cell-w.ensures) c.put_cell-x.ensures) c.put_cell-y.ensures) 6 (omega arith) c.requires.fields_in_bounds }

pub put_cell-requires : goal.put_cell-requires
put_cell-requires g c = let field = held c.args.fields.now in
    let turn = g.met.P.Puts.in_turn in
    record { column_bound = (omega arith, c.requires.by_index 5 (omega arith)); x_in_bounds = run_room field turn 0 5 (run_on field turn 0 4 (run_on field turn 0 3 (run_on field turn 0 2 (run_on field turn 0 1 (run_on field turn 0 0 (run_none field turn 0 c.args.text.now c.args.at) c.put_cell-v.ensures) c.put_cell-w.ensures) c.put_cell-x.ensures) c.put_cell-y.ensures) c.put_cell-z.ensures) 6 (omega arith) c.requires.fields_in_bounds }

pub returns : goal.returns
returns g c = let field = held c.args.fields.now in
    let turn = g.met.P.Puts.in_turn in
    run_on field turn 0 5 (run_on field turn 0 4 (run_on field turn 0 3 (run_on field turn 0 2 (run_on field turn 0 1 (run_on field turn 0 0 (run_none field turn 0 c.args.text.now c.args.at) c.put_cell-v.ensures) c.put_cell-w.ensures) c.put_cell-x.ensures) c.put_cell-y.ensures) c.put_cell-z.ensures) c.put_cell.ensures
