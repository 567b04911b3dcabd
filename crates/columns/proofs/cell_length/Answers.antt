-- `columns::cell_length` meets its contract. The field as it is spelled, and one byte. Assumes nothing.
use native.Mathlib.Omega.{arith}
use Rattle.columns.proofs.Forms.{cell_long}
use Rattle.columns.proofs.cell_length.Goals as goal

pub returns : goal.returns
returns c = (cell_long c.args.column c.args.x c.of.ensures c.spelled_length.ensures.0, omega (arith, c.spelled_length.ensures.1))
