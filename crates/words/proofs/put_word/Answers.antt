-- `words::put_word` meets its contract. Assumes nothing.
use native.Mathlib.Nat.{add-zero}
use Rattle.ground.proofs.Put.{wrote_none}
use Rattle.words.proofs.Letters.{wrote_letter}
use Rattle.words.proofs.put_word.Goals as goal

pub loop-i-init : goal.loop-i-init
loop-i-init c = rw add-zero (wrote_none _ _)

pub loop-i-preserved : goal.loop-i-preserved
loop-i-preserved c = wrote_letter _ _ c.loop-i.invariant c.loop-i-test.true c.put_u8.ensures
