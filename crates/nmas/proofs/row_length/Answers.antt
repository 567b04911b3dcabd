-- `nmas::row_length` meets its contract. The row is measured from 0 on, and has at most 171 bytes. Assumes nothing.
use native.Mathlib.Omega.{arith}
use Rattle.nmas.specs.Inner.Cells.{held}
use Rattle.nmas.proofs.Wide.{row_wide}
use Rattle.nmas.proofs.row_length.Goals as goal

pub put_row-requires : goal.put_row-requires
put_row-requires c = record { by_index = c.requires; fields_in_bounds = record { fits = omega (arith, row_wide (held c.args.fields.now) c.requires) } }

pub returns : goal.returns
returns c = (omega (arith, c.put_row.ensures.next), omega (arith, c.put_row.ensures.next, row_wide (held c.args.fields.now) c.requires))
