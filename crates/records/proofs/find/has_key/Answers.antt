-- `records::find::has_key` meets its contract. There is no such record, or its leading number decides. Assumes nothing.
use Rattle.sections.proofs.Walk.{at_none, at_told}
use Rattle.records.proofs.find.has_key.Goals as goal

pub returns-then-n-i : goal.returns-then-n-i
returns-then-n-i c = at_none _ _ _ _ c.if-n-i.true

pub returns : goal.returns
returns c = at_told _ _ _ _ c.if-n-i.false c.u32_at.ensures
