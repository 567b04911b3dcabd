-- `records::rows::energy_row` meets its contract. Each field is read where it stands, so the record is the one at its place. Assumes nothing.
use mathlib.Core.Path.{refl}
use Rattle.records.proofs.Read.{energy_is}
use Rattle.records.proofs.rows.energy_row.Goals as goal

pub returns : goal.returns
returns c = energy_is _ _ _ c.u32_at.ensures refl c.u24_at.ensures c.size_at.ensures c.u32_at-2.ensures c.size_at-2.ensures c.u32_at-3.ensures
