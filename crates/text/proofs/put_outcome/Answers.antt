-- `text::put_outcome` meets its contract: the statement, of the length that was told, or the refusal to tell it. Assumes nothing.
use Rattle.text.proofs.Ends.{said_refused}
use Rattle.text.proofs.put_outcome.Goals as goal

pub returns-in-Err : goal.returns-in-Err
returns-in-Err c = said_refused _ c.length.ensures c.in-Err.is c.put_refusal.ensures
