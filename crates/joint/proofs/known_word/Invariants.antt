-- `joint::known_word` meets its contract. The invariant, `Filling`: the word has the marks of the rows from u on. Assumes nothing.
use Prim.Native.Nat.{◌≤◌}
use Rattle.joint.specs.Inner.Added.{unit_known}
use Rattle.joint.proofs.Filling.{Filling}
use Rattle.joint.proofs.known_word.Given as goal

abbrev pub invariant-loop-u : goal.invariant-loop-u
invariant-loop-u l = (l.k ≤ l.u) × Filling (unit_known l.first.named.book.now l.first.named.rows l.locked.book.now l.locked.rows) l.end l.u l.w
