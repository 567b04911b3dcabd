-- `joint::units_add` meets its contract. The invariant: the rows so far stand in the tree, the count is what they add, and w is what is left of a word that was begun. Assumes nothing.
use Prim.Native.Nat.{ℕ, ◌+◌}
use mathlib.Core.Path.{◌≡◌, ◌∙◌, ap}
use native.Mathlib.Omega.{arith}
use Rattle.sections.proofs.Total.{total_none, total_more, total_all}
use Rattle.joint.specs.Inner.Marks.{odd, marked}
use Rattle.joint.specs.Inner.Added.{unit_adds}
use Rattle.joint.proofs.Adding.{units_few}
use Rattle.joint.proofs.Filling.{left_next}
use Rattle.joint.proofs.units_add.Goals as goal

pub loop-u-init : goal.loop-u-init
loop-u-init c = (total_none _, (c.requires, λ d. absurd (d (omega arith))))

pub loop-u-preserved : goal.loop-u-preserved
loop-u-preserved c = let args = c.args in
    let inv = c.loop-u.invariant in
    let adds = c.unit_adds-count.ensures.value ∙ ap (λ (x : ℕ). unit_adds args.locked.now.book.now args.locked.now.rows (odd x) c.loop-u.u) c.next_word-w.ensures in
    (total_more _ _ inv.0 adds, (c.unit_adds-count.ensures.grown_2, left_next _ _ c.next_word-w.ensures))

pub overflow_add-count : goal.overflow_add-count
overflow_add-count c = let args = c.args in
    omega (arith, (loop-u-preserved c).0, units_few args.locked.now.book.now args.locked.now.rows (marked args.marks.now) (c.loop-u.u + 1), c.args.locked.now.laid.few)

pub returns : goal.returns
returns c = let inv = c.loop-u.invariant in
    let e : c.loop-u.u ≡ c.args.locked.now.rows.m = omega arith in
    let all = total_all _ _ _ inv.0 e in
    (all, omega (arith, all, units_few c.args.locked.now.book.now c.args.locked.now.rows (marked c.args.marks.now) c.args.locked.now.rows.m, c.args.locked.now.laid.few))
