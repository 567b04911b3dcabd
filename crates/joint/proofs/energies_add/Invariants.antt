-- `joint::energies_add` meets its contract. The invariant: the count is what the rows so far add. Assumes nothing.
use mathlib.Core.Path.{◌≡◌}
use Rattle.sections.specs.Total.{total}
use Rattle.joint.specs.Inner.Added.{energy_adds}
use Rattle.joint.proofs.energies_add.Given as goal

abbrev pub invariant-loop-i : goal.invariant-loop-i
invariant-loop-i l = l.count ≡ total (energy_adds l.first.named.book.now l.first.named.rows l.locked.book.now l.locked.rows) l.i
