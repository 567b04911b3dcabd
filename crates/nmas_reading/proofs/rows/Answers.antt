-- `nmas_reading::rows` meets its contract. The walk says all of it. Assumes nothing.
use Rattle.std.proofs.lemmas.Result.{err_from_is_err_and}
use Rattle.nmas_reading.proofs.Texts.{rows_refused, rows_given}
use Rattle.nmas_reading.proofs.rows.Goals as goal

pub returns-in_err-w : goal.returns-in_err-w
returns-in_err-w c = let p = err_from_is_err_and c.from_residual.result c.from_residual.ensures.1 in rw (p.1, p.2) (rows_refused c.in_err-w.ensures.walked)

pub returns : goal.returns
returns c = rows_given c.in_ok-w.ensures.walked
