-- `decimal_reading::take_rest` meets its contract. Each way in which the reading ends has its law. Assumes nothing.
use mathlib.Core.Path.{refl}
use Rattle.decimal_reading.proofs.Taking.{rest_plain, rest_no_point, rest_decided}
use Rattle.decimal_reading.proofs.take_rest.Goals as goal

pub returns-then-decimals-eq0 : goal.returns-then-decimals-eq0
returns-then-decimals-eq0 c = rw c.then_some.ensures (rest_plain c.args.text.now c.args.at c.args.v _ c.args.end c.if-decimals-eq0.true c.requires.v_le_far.0 c.requires.at_in_bounds.1 refl)

pub returns-then-b-ne46 : goal.returns-then-b-ne46
returns-then-b-ne46 c = rest_no_point c.args.text.now c.args.at c.args.v _ c.args.end c.if-decimals-eq0.false refl c.if-b-ne46.true

pub returns : goal.returns
returns c = rest_decided c.args.text.now c.args.at c.args.v _ c.args.end c.if-decimals-eq0.false refl c.if-b-ne46.false c.requires.end_nonzero.1 c.requires.v_le_far.1 _ c.take_places.ensures
