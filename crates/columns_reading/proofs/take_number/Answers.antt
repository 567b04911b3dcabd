-- `columns_reading::take_number` meets its contract. A number stands there, and it is not below the least. Assumes nothing.
use Rattle.columns_reading.proofs.Numbers.{number_decided}
use Rattle.columns_reading.proofs.take_number.Goals as goal

pub returns : goal.returns
returns c = rw c.then_some.ensures (number_decided c.args.f c.args.end c.requires.end_nonzero.1 c.args.text.now c.args.at _ c.in_ok-n.ensures)
