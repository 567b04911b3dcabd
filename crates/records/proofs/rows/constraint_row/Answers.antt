-- `records::rows::constraint_row` meets its contract. Each field is read where it stands, so the record is the one at its place. Assumes nothing.
use mathlib.Core.Path.{refl}
use Rattle.records.proofs.Read.{constraint_is}
use Rattle.records.proofs.rows.constraint_row.Goals as goal

pub returns : goal.returns
returns c = constraint_is _ _ _ c.u32_at.ensures refl refl refl refl c.u64_at.ensures c.u32_at-2.ensures c.u32_at-3.ensures c.u32_at-4.ensures c.above_at.ensures c.below_at.ensures c.size_at.ensures c.u32_at-5.ensures
