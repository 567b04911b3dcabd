-- `decimal_reading::take_sided` meets its contract. The sign, what stands behind it, and whether the two go together. Assumes nothing.
use Rattle.decimal_reading.proofs.Sides.{sided_none, sided_found}
use Rattle.decimal_reading.proofs.take_sided.Goals as goal

pub returns-in_err-n : goal.returns-in_err-n
returns-in_err-n c = rw c.from_residual.ensures (sided_none c.args.charge c.args.decimals c.args.limit c.args.end c.requires.end_nonzero.1 c.args.text.now c.args.at c.is_minus-minus.ensures
    (rw c.past.ensures at c.in_err-n.ensures))

pub returns : goal.returns
returns c = rw c.then_some.ensures (sided_found c.args.charge c.args.decimals c.args.limit c.args.end c.requires.end_nonzero.1 c.args.text.now c.args.at c.is_minus-minus.ensures c.requires.end_nonzero.0 _
    (rw c.past.ensures at c.in_ok-n.ensures)
    c.is_sided.ensures)
