-- `joint::units_add` meets its contract. The invariant: the rows so far stand in the tree, the count is what they add, and w is what is left of a word that was begun. Assumes nothing.
use Prim.Native.Nat.{◌%◌}
use mathlib.Core.Path.{◌≡◌}
use Rattle.sections.specs.Total.{total}
use Rattle.census.specs.Inner.Tree.{Grown}
use Rattle.sharing.specs.Accounts.{unit_account}
use Rattle.joint.specs.Names.{units_of}
use Rattle.joint.specs.Inner.Marks.{left_for, marked}
use Rattle.joint.specs.Inner.Added.{unit_adds}
use Rattle.joint.proofs.units_add.Given as goal

abbrev pub invariant-loop-u : goal.invariant-loop-u
invariant-loop-u l =
    (l.count ≡ total (λ v. unit_adds l.locked.book.now l.locked.rows (marked l.marks v) v) l.u)
    × (Grown (unit_account (units_of l.locked.book.now l.locked.rows)) l.u l.links × ((l.u % 64 ≡ 0 → ⊥) → l.w ≡ left_for l.marks l.u))
