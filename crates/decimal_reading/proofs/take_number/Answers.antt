-- `decimal_reading::take_number` meets its contract. The digits before the point, then the rest. Assumes nothing.
use Rattle.decimal_reading.proofs.Taking.{front_room, number_none, number_bare, number_decided}
use Rattle.decimal_reading.proofs.take_number.Goals as goal

pub take_rest-requires-clause-v_le_far : goal.take_rest-requires-clause-v_le_far
take_rest-requires-clause-v_le_far c = let w = c.in_ok-w.ensures in (w.whole.small, front_room c.args.decimals c.requires.decimals_bound.0 w)

pub returns-in_err-w : goal.returns-in_err-w
returns-in_err-w c = rw c.from_residual.ensures (number_none c.requires.decimals_bound.0 c.requires.decimals_bound.1 c.requires.end_nonzero.0 c.in_err-w.ensures)

pub returns-in_err-x : goal.returns-in_err-x
returns-in_err-x c = rw c.from_residual-in_err-x.ensures (number_bare c.requires.decimals_bound.0 c.requires.decimals_bound.1 c.requires.end_nonzero.0 c.in_ok-w.ensures c.in_err-x.ensures)

pub returns : goal.returns
returns c = rw c.then_some.ensures (number_decided c.requires.decimals_bound.0 c.requires.decimals_bound.1 c.requires.end_nonzero.0 c.in_ok-w.ensures _ c.in_ok-x.ensures)
