-- `decimal_reading::take_digits` meets its contract. The invariant: sum is what the digits passed make. Assumes nothing.
use Rattle.decimal_reading.proofs.Taking.{Passed}
use Rattle.decimal_reading.proofs.take_digits.Given as goal

abbrev pub invariant-loop-i : goal.invariant-loop-i
invariant-loop-i l = Passed l.text l.at 0 l.i l.sum
