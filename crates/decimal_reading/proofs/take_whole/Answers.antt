-- `decimal_reading::take_whole` meets its contract. Each way in which the reading ends has its law. Assumes nothing.
use mathlib.Core.Path.{refl}
use Rattle.decimal_reading.proofs.Taking.{whole_nothing, whole_empty, whole_spare, whole_found}
use Rattle.decimal_reading.proofs.take_whole.Goals as goal

pub returns-in_err-w : goal.returns-in_err-w
returns-in_err-w c = rw c.from_residual.ensures (whole_nothing c.in_err-w.ensures)

pub returns-then-w-at : goal.returns-then-w-at
returns-then-w-at c = whole_empty c.in_ok-w.ensures c.if-w-at.true

pub returns-then-spare_zero : goal.returns-then-spare_zero
returns-then-spare_zero c = whole_spare c.in_ok-w.ensures refl c.spare_zero.ensures c.if-spare_zero.true

pub returns : goal.returns
returns c = whole_found c.in_ok-w.ensures c.if-w-at.false c.requires refl c.spare_zero.ensures c.if-spare_zero.false
