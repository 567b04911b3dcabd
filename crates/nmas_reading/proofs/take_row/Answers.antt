-- `nmas_reading::take_row` meets its contract. Seventeen fields, and what is asked of them together. Assumes nothing.
use Rattle.nmas_reading.proofs.OneRow.{row_none, row_decided}
use Rattle.nmas_reading.proofs.take_row.Goals as goal

pub returns-in_err-end : goal.returns-in_err-end
returns-in_err-end c = record { fields_len = c.in_err-end.ensures.fields_len; row_found = rw c.from_residual.ensures (row_none c.in_err-end.ensures.fields_found) }

pub returns : goal.returns
returns c = record { fields_len = c.in_ok-end.ensures.fields_len; row_found = rw c.then_some.ensures (row_decided _ c.in_ok-end.ensures.fields_found c.keeps.ensures) }
