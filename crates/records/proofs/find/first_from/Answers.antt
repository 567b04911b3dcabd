-- `records::find::first_from` meets its contract. The invariant, `Between`: the key's place is from low to high. The measure is what is left. Assumes nothing.
use native.Mathlib.Omega.{arith}
use Rattle.sections.proofs.Halves.{between_above, between_before}
use Rattle.records.proofs.find.first_from.Goals as goal

pub loop-low-preserved-then-u32_at-key : goal.loop-low-preserved-then-u32_at-key
loop-low-preserved-then-u32_at-key c = between_above _ _ _ c.requires.keeps c.loop-low.invariant _ c.u32_at.ensures (omega arith) (omega arith)

pub loop-low-preserved : goal.loop-low-preserved
loop-low-preserved c = between_before _ _ _ c.requires.keeps c.loop-low.invariant _ c.u32_at.ensures (omega arith) (omega arith) (omega arith)
