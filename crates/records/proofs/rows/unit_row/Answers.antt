-- `records::rows::unit_row` meets its contract. Each field is read where it stands, so the record is the one at its place. Assumes nothing.
use Rattle.records.proofs.Read.{unit_is}
use Rattle.records.proofs.rows.unit_row.Goals as goal

pub returns : goal.returns
returns c = unit_is _ _ _ c.u32_at.ensures c.u32_at-2.ensures c.u32_at-3.ensures c.above_at.ensures c.below_at.ensures c.size_at.ensures
