-- `dispatch::tally` meets its contract. The invariant: the rows so far have no fault, what is kept of the last one is its key and what its id and
-- service came to, and the sum asked for is over the rows so far. It starts behind the ordinary rows. Assumes nothing.
use mathlib.Core.Path.{◌≡◌}
use Rattle.dispatch.specs.Dispatch.{dispatch_row, sum_with}
use Rattle.dispatch.proofs.Turns.{Passed}
use Rattle.dispatch.proofs.tally.Given as goal

abbrev pub invariant-loop-i : goal.invariant-loop-i
invariant-loop-i l = Passed l.s l.i l.before l.run × (l.asked ≡ sum_with (dispatch_row l.s) l.id l.service l.i)
