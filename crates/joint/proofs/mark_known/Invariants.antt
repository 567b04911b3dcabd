-- `joint::mark_known` meets its contract. The invariant, `Marking`: the words so far have their marks. Assumes nothing.
use Rattle.joint.specs.Inner.Added.{unit_known}
use Rattle.joint.proofs.Filling.{Marking}
use Rattle.joint.proofs.mark_known.Given as goal

abbrev pub invariant-loop-k : goal.invariant-loop-k
invariant-loop-k l = Marking (unit_known l.first.named.book.now l.first.named.rows l.locked.book.now l.locked.rows) l.locked.rows.m l.k l.marks
