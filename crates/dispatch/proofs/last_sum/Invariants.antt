-- `dispatch::last_sum` meets its contract. The invariant: the rows passed so far, with those before them, come to the last row's sum.
-- Assumes nothing.
use Rattle.dispatch.proofs.Last.{Back}
use Rattle.dispatch.proofs.last_sum.Given as goal

abbrev pub invariant-loop-j : goal.invariant-loop-j
invariant-loop-j l = Back l.s l.i l.j l.run
