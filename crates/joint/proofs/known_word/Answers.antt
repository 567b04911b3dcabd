-- `joint::known_word` meets its contract. The invariant, `Filling`: the word has the marks of the rows from u on. Assumes nothing.
use native.Mathlib.Omega.{arith}
use Rattle.joint.proofs.Filling.{fill_none, fill_yes, fill_no, fill_room}
use Rattle.joint.proofs.known_word.Goals as goal

pub loop-u-init : goal.loop-u-init
loop-u-init c = (omega (arith, c.word_end-end.ensures.lower_bound.0), fill_none _ _)

pub overflow_mul-w : goal.overflow_mul-w
overflow_mul-w c = omega (arith, fill_room _ _ _ _ c.loop-u.invariant.1 (omega (arith, c.word_end-end.ensures.lower_bound.1.1)))

pub overflow_add-w : goal.overflow_add-w
overflow_add-w c = omega (arith, fill_room _ _ _ _ c.loop-u.invariant.1 (omega (arith, c.word_end-end.ensures.lower_bound.1.1)))

pub loop-u-preserved-then-unit_known : goal.loop-u-preserved-then-unit_known
loop-u-preserved-then-unit_known c = (omega arith, fill_yes _ _ _ _ c.loop-u.invariant.1 (omega arith) (omega arith) c.unit_known.ensures c.if-unit_known.true)

pub loop-u-preserved : goal.loop-u-preserved
loop-u-preserved c = (omega arith, fill_no _ _ _ _ c.loop-u.invariant.1 (omega arith) (omega arith) c.unit_known.ensures c.if-unit_known.false)
