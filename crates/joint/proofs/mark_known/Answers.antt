-- `joint::mark_known` meets its contract. The invariant, `Marking`: the words so far have their marks. Assumes nothing.
use mathlib.Core.Path.{refl}
use native.Mathlib.Omega.{arith}
use Rattle.joint.proofs.Filling.{mark_more}
use Rattle.joint.proofs.mark_known.Goals as goal

pub loop-k-preserved : goal.loop-k-preserved
loop-k-preserved c = mark_more _ _ _ c.loop-k.invariant (omega (arith, c.args.locked.now.laid.few)) c.known_word.ensures refl
