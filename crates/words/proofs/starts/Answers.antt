-- `words::starts` meets its contract: no letter can stand there, or what stands there is compared. Assumes nothing.
use native.Mathlib.Omega.{arith}
use Rattle.words.proofs.Letters.{tells_same, tells_short}
use Rattle.words.proofs.starts.Goals as goal

pub returns-then-text-at : goal.returns-then-text-at
returns-then-text-at c = tells_short c.requires (omega arith)

pub returns-then-text-at-2 : goal.returns-then-text-at-2
returns-then-text-at-2 c = tells_short c.requires (omega arith)

pub returns : goal.returns
returns c = tells_same (omega arith) c.eq.ensures
