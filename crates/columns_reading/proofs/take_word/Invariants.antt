-- `columns_reading::take_word` meets its contract. The invariant: none of the words so far stands there. Assumes nothing.
use Rattle.columns_reading.proofs.Words.{NoneOf}
use Rattle.columns_reading.proofs.take_word.Given as goal

abbrev pub invariant-loop-x : goal.invariant-loop-x
invariant-loop-x l = NoneOf l.words l.last l.end l.text l.at l.x
