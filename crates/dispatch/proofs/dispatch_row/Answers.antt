-- `dispatch::dispatch_row` meets its contract. Each field is read where it stands, so the row is the one at its place. Assumes nothing.
use borrow.Author.Rules.{rules}
use Rattle.dispatch.proofs.Rows.{row_is}
use Rattle.dispatch.proofs.dispatch_row.Goals as goal

pub returns : goal.returns
returns c = row_is _ _ _ c.u32_at.ensures (search rules) (search rules) c.u16_at.ensures c.u32_at-2.ensures c.u32_at-3.ensures
