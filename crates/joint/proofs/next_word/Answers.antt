-- `joint::next_word` meets its contract. Every 64 rows a word begins; between, the row before left it. Assumes nothing.
use native.Mathlib.Omega.{arith}
use Rattle.joint.proofs.Filling.{left_new}
use Rattle.joint.proofs.next_word.Goals as goal

pub returns-then-u-eq0 : goal.returns-then-u-eq0
returns-then-u-eq0 c = left_new _ _ (omega arith)
