-- `nmas_reading::row` meets its contract. The walk says where the row begins, and there it is read. Assumes nothing.
use Rattle.std.proofs.lemmas.Result.{err_from_is_err_and}
use Rattle.nmas_reading.proofs.Texts.{row_refused, row_given, row_past}
use Rattle.nmas_reading.proofs.row.Goals as goal

pub returns-in_err-w : goal.returns-in_err-w
returns-in_err-w c = let p = err_from_is_err_and c.from_residual.result c.from_residual.ensures.1 in rw (p.1, p.2) (row_refused c.in_err-w.ensures.walked)

pub returns-in_default : goal.returns-in_default
returns-in_default c = row_past c.in_ok-w.ensures.walked c.in_default.is

pub returns : goal.returns
returns c = rw c.row_of.ensures (row_given c.in_ok-w.ensures.walked c.in-Some.at c.take_row.new.fields c.take_row.result c.in-Some.is c.take_row.ensures.row_found)
