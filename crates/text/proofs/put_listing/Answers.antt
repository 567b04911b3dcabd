-- `text::put_listing` meets its contract: four bytes of account and a book, or neither. Assumes nothing.
use Rattle.text.proofs.Ends.{said_short, said_long}
use Rattle.text.proofs.put_listing.Goals as goal

pub returns-then-input-lt4 : goal.returns-then-input-lt4
returns-then-input-lt4 c = said_short c.args.input.now c.if-input-lt4.true c.put_outcome.ensures

pub returns : goal.returns
returns c = said_long c.args.input.now c.if-input-lt4.false _ c.u32_at.ensures c.put_outcome-2.ensures
