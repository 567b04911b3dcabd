-- `decimal::put_signed` meets its contract. A minus and the size, or the size alone. Assumes nothing.
use Rattle.decimal.proofs.Signs.{plus_room, plus_end, minus_byte, minus_room, minus_end}
use Rattle.decimal.proofs.put_signed.Goals as goal

pub put_byte-p-requires : goal.put_byte-p-requires
put_byte-p-requires c = minus_byte c.args.x c.args.decimals c.ranges.x c.size-size.ensures c.is_negative-below.ensures c.args.text.now c.args.at c.if-below.true c.requires

pub put_number-requires : goal.put_number-requires
put_number-requires c = minus_room c.args.x c.args.decimals c.ranges.x c.size-size.ensures c.is_negative-below.ensures c.if-below.true c.requires c.put_byte-p.ensures

pub returns-then-below : goal.returns-then-below
returns-then-below c = minus_end c.args.x c.args.decimals c.ranges.x c.size-size.ensures c.is_negative-below.ensures c.if-below.true c.put_byte-p.ensures c.put_number.ensures

pub put_number-requires-2 : goal.put_number-requires-2
put_number-requires-2 c = plus_room c.args.x c.args.decimals c.ranges.x c.size-size.ensures c.is_negative-below.ensures c.args.text.now c.args.at c.if-below.false c.requires

pub returns : goal.returns
returns c = plus_end c.args.x c.args.decimals c.ranges.x c.size-size.ensures c.is_negative-below.ensures c.if-below.false c.put_number-2.ensures
