-- `dispatch::last_key` meets its contract: the row before, or none. Assumes nothing.
use Rattle.dispatch.proofs.Last.{key_none, key_last}
use Rattle.dispatch.proofs.last_key.Goals as goal

pub returns-then-i-eq0 : goal.returns-then-i-eq0
returns-then-i-eq0 c = key_none _ _ c.if-i-eq0.true

pub returns : goal.returns
returns c = key_last _ _ c.if-i-eq0.false c.dispatch_row.ensures c.key.ensures
