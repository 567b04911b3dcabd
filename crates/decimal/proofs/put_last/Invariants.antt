-- `decimal::put_last` meets its contract. The invariant: the digits behind the free places stand. Assumes nothing.
use Rattle.decimal.proofs.Writing.{Behind}
use Rattle.decimal.proofs.put_last.Given as goal

abbrev pub invariant-loop-free : goal.invariant-loop-free
invariant-loop-free l = Behind l.initial.text l.at l.n l.x l.free l.text l.rest

abbrev pub decreases-loop-free : goal.decreases-loop-free
decreases-loop-free l = l.free
