-- `nmas_reading::take_next` meets its contract. The column's field is there and is kept, or no row's fields are there. Assumes nothing.
use mathlib.Core.Path.{refl}
use Rattle.nmas_reading.proofs.Fields.{goes_none, goes_more}
use Rattle.nmas_reading.proofs.take_next.Goals as goal

pub returns-in_err-cell : goal.returns-in_err-cell
returns-in_err-cell c = rw c.from_residual.ensures (goes_none c.requires c.in_err-cell.ensures)

pub returns : goal.returns
returns c = goes_more c.requires c.in_ok-cell.ensures refl
