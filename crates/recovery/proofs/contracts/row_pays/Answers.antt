-- `recovery::contracts::row_pays` meets its contract. A region without a factor pays nothing, and any other the row's two shares. Assumes nothing.
use mathlib.Core.Path.{refl}
use Rattle.recovery.proofs.Payments.{row_none, row_both}
use Rattle.recovery.proofs.contracts.row_pays.Goals as goal

pub returns-then-p-eq0 : goal.returns-then-p-eq0
returns-then-p-eq0 c = row_none c.requires refl c.if-p-eq0.true

pub returns : goal.returns
returns c = row_both c.requires refl c.if-p-eq0.false c.owned_share.ensures.whole c.owned_share-2.ensures.whole
