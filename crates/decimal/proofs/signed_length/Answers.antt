-- `decimal::signed_length` meets its contract. A minus counts for one. Assumes nothing.
use native.Mathlib.Omega.{arith}
use Rattle.decimal.proofs.Signs.{minus_length, plus_length}
use Rattle.decimal.proofs.signed_length.Goals as goal

pub returns-then-is_negative : goal.returns-then-is_negative
returns-then-is_negative c = (omega (arith, minus_length c.args.x c.args.decimals c.ranges.x c.size.ensures c.is_negative.ensures c.if-is_negative.true, c.number_length-n.ensures), omega (arith, c.number_length-n.ensures))

pub returns : goal.returns
returns c = (omega (arith, plus_length c.args.x c.args.decimals c.ranges.x c.size.ensures c.is_negative.ensures c.if-is_negative.false, c.number_length-n.ensures), omega (arith, c.number_length-n.ensures))
