-- `records::rows::contract_row` meets its contract. Each field is read where it stands, so the record is the one at its place. Assumes nothing.
use mathlib.Core.Path.{refl}
use Rattle.records.proofs.Read.{contract_is, five}
use Rattle.records.proofs.rows.contract_row.Goals as goal

pub returns : goal.returns
returns c = contract_is _ _ _ c.u32_at.ensures refl c.u24_at.ensures c.u64_at.ensures (five c.u32_at-2.ensures c.u32_at-3.ensures c.u32_at-4.ensures c.u32_at-5.ensures c.u32_at-6.ensures)
