-- `decimal_reading::take_places` meets its contract. The invariant: sum is what the digits passed make, behind those of v. Assumes nothing.
use Rattle.decimal_reading.proofs.Taking.{Passed}
use Rattle.decimal_reading.proofs.take_places.Given as goal

abbrev pub invariant-loop-i : goal.invariant-loop-i
invariant-loop-i l = Passed l.text l.at l.v l.i l.sum
