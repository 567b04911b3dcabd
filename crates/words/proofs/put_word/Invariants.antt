-- `words::put_word` meets its contract. The invariant: the first i bytes stand. Assumes nothing.
use Prim.Native.Nat.{◌+◌}
use lib.ListN.{take}
use Rattle.ground.specs.Inner.Put.{Wrote}
use Rattle.words.proofs.put_word.Given as goal

abbrev pub invariant-loop-i : goal.invariant-loop-i
invariant-loop-i l = Wrote l.initial.text l.at (take l.i l.word) l.text (l.at + l.i)
