-- `parsing::heading_at` meets its contract. Each field is read where it stands, so the header is the one of the bytes. Assumes nothing.
use Rattle.parsing.proofs.Read.{heading_is}
use Rattle.parsing.proofs.heading_at.Goals as goal

pub returns : goal.returns
returns c = heading_is _ _ c.u32_at.ensures c.u32_at-2.ensures c.u16_at.ensures c.u16_at-2.ensures c.u16_at-3.ensures
