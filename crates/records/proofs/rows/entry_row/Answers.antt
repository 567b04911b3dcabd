-- `records::rows::entry_row` meets its contract. Each field is read where it stands, so the record is the one at its place. Assumes nothing.
use Rattle.records.proofs.Read.{entry_is_lem}
use Rattle.records.proofs.rows.entry_row.Goals as goal

pub returns : goal.returns
returns c = entry_is_lem _ _ _ c.size_at.ensures c.u32_at.ensures c.u32_at-2.ensures
