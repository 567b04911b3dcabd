-- `decimal::put_number` meets its contract: the digits alone; or the decimals, the point before them, and what is left of the digits before that.
-- Assumes nothing.
use native.Mathlib.Omega.{arith}
use Rattle.decimal.proofs.Writing.{plain_room, plain_end, wide, last_room, point_room, first_room, pointed_end}
use Rattle.decimal.proofs.put_number.Goals as goal

pub put_whole-requires : goal.put_whole-requires
put_whole-requires c = plain_room c.args.x c.args.decimals c.args.text.now c.args.at c.if-decimals-eq0.true c.requires

pub returns-then-decimals-eq0 : goal.returns-then-decimals-eq0
returns-then-decimals-eq0 c = plain_end _ _ c.if-decimals-eq0.true c.put_whole.ensures

pub places-requires : goal.places-requires
places-requires c = omega (arith, c.requires, c.well_formed, wide c.args.x c.args.decimals c.if-decimals-eq0.false)

pub overflow_add-point : goal.overflow_add-point
overflow_add-point c = omega (arith, last_room c.args.x c.args.decimals _ c.places.ensures c.if-decimals-eq0.false c.args.text.now c.args.at c.requires)

pub overflow_add-point-2 : goal.overflow_add-point-2
overflow_add-point-2 c = omega (arith, last_room c.args.x c.args.decimals _ c.places.ensures c.if-decimals-eq0.false c.args.text.now c.args.at c.requires)

pub put_last-rest-requires : goal.put_last-rest-requires
put_last-rest-requires c = last_room c.args.x c.args.decimals _ c.places.ensures c.if-decimals-eq0.false c.args.text.now c.args.at c.requires

pub put_u8-requires : goal.put_u8-requires
put_u8-requires c = point_room c.args.x c.args.decimals _ c.places.ensures c.if-decimals-eq0.false c.args.at c.requires c.put_last-rest.ensures

pub put_last-requires : goal.put_last-requires
put_last-requires c = first_room c.args.x c.args.decimals _ c.places.ensures c.if-decimals-eq0.false c.args.at _ _ c.requires c.put_last-rest.ensures c.put_u8.ensures

pub overflow_add-result : goal.overflow_add-result
overflow_add-result c = omega (arith, last_room c.args.x c.args.decimals _ c.places.ensures c.if-decimals-eq0.false c.args.text.now c.args.at c.requires)

pub overflow_add-result-2 : goal.overflow_add-result-2
overflow_add-result-2 c = omega (arith, last_room c.args.x c.args.decimals _ c.places.ensures c.if-decimals-eq0.false c.args.text.now c.args.at c.requires)

pub returns : goal.returns
returns c = pointed_end c.args.x c.args.decimals _ c.places.ensures c.if-decimals-eq0.false c.args.at c.put_last-rest.ensures c.put_u8.ensures c.put_last.ensures
