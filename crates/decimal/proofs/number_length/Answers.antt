-- `decimal::number_length` meets its contract: the digits, and the point where there is one. Assumes nothing.
use native.Mathlib.Omega.{arith}
use Rattle.decimal.proofs.Writing.{places_short, plain_length, long}
use Rattle.decimal.proofs.number_length.Goals as goal

pub returns-then-decimals-eq0 : goal.returns-then-decimals-eq0
returns-then-decimals-eq0 c = let all = c.places-n.ensures in
    (plain_length c.args.x c.args.decimals _ all c.if-decimals-eq0.true, omega (arith, places_short c.args.x c.args.decimals _ all c.ranges.x.fits))

pub overflow_add-result : goal.overflow_add-result
overflow_add-result c = record { fits = omega (arith, places_short c.args.x c.args.decimals _ c.places-n.ensures c.ranges.x.fits) }

pub returns : goal.returns
returns c = let all = c.places-n.ensures in
    (omega (arith, long c.args.x c.args.decimals _ all c.if-decimals-eq0.false), omega (arith, places_short c.args.x c.args.decimals _ all c.ranges.x.fits))
