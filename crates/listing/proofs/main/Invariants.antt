-- What is read so far fits. The measure is the room that is left.
use Rattle.std.proofs.Common.{◌-◌, ◌≤◌}
use Rattle.listing.proofs.main.Given as goal

abbrev pub invariant-loop-n : goal.invariant-loop-n
invariant-loop-n l = l.n ≤ 65_536

abbrev pub decreases-loop-n : goal.decreases-loop-n
decreases-loop-n l = 65_536 - l.n
