-- `dispatch::ordinary_front` meets its contract. The invariant: the rows so far are ordinary, what is kept of the last one is its key, and the sum
-- asked for is over the rows so far. Assumes nothing.
use mathlib.Core.Path.{◌≡◌}
use Rattle.dispatch.specs.Dispatch.{dispatch_row, sum_with}
use Rattle.dispatch.proofs.OrdinaryRows.{Ordinarily}
use Rattle.dispatch.proofs.ordinary_front.Given as goal

abbrev pub invariant-loop-i : goal.invariant-loop-i
invariant-loop-i l = Ordinarily l.s l.i l.before × (l.asked ≡ sum_with (dispatch_row l.s) l.id l.service l.i)
