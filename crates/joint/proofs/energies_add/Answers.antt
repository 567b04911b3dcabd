-- `joint::energies_add` meets its contract. The invariant: the count is what the rows so far add. Assumes nothing.
use Prim.Native.Nat.{◌+◌}
use mathlib.Core.Path.{◌≡◌}
use native.Mathlib.Omega.{arith}
use Rattle.sections.proofs.Total.{total_none, total_more, total_all}
use Rattle.joint.proofs.Adding.{energies_few}
use Rattle.joint.proofs.energies_add.Goals as goal

pub loop-i-init : goal.loop-i-init
loop-i-init c = total_none _

pub loop-i-preserved : goal.loop-i-preserved
loop-i-preserved c = total_more _ _ c.loop-i.invariant c.energy_adds-count.ensures

pub overflow_add-count : goal.overflow_add-count
overflow_add-count c = omega (arith, loop-i-preserved c, energies_few c.args.first.now.named.book.now c.args.first.now.named.rows c.args.locked.now.book.now c.args.locked.now.rows (c.loop-i.i + 1), c.args.locked.now.laid.sorted.few)

pub returns : goal.returns
returns c = let e : c.loop-i.i ≡ c.args.locked.now.rows.n = omega arith in
    let all = total_all _ _ _ c.loop-i.invariant e in
    (all, omega (arith, all, energies_few c.args.first.now.named.book.now c.args.first.now.named.rows c.args.locked.now.book.now c.args.locked.now.rows c.args.locked.now.rows.n, c.args.locked.now.laid.sorted.few))
