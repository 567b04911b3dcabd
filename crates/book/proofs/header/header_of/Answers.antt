-- `book::header::header_of` meets its contract. Each field is read where it stands, so the header is the one of the bytes. Assumes nothing.
use Rattle.book.proofs.Read.{header_is}
use Rattle.book.proofs.header.header_of.Goals as goal

pub returns : goal.returns
returns c = header_is _ _ c.u16_at.ensures c.u32_at.ensures c.u16_at-2.ensures c.u16_at-3.ensures c.u16_at-4.ensures c.u16_at-5.ensures c.u16_at-6.ensures
