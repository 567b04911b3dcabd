-- `energy_pass::energies_hold` meets its contract: a row that does not hold is one that a check refuses, the others hold but for a limit, which their regions' entries give, and where all checks pass each row was summed. Assumes nothing.
use mathlib.Core.Path.{ap}
use mathlib.Core.Bool.{not}
use native.Mathlib.Omega.{arith}
use borrow.Author.Rules.{rules}
use Rattle.sections.proofs.Search.{all_none, all_more, all_done}
use Rattle.energy_pass.proofs.Turns.{rows_none, rows_stop, rows_more, rows_room, rows_all}
use Rattle.energy_pass.proofs.End.{energies_no, energies_yes}
use Rattle.energy_pass.proofs.energies_hold.Goals as goal

pub loop-i-init : goal.loop-i-init
loop-i-init c = rows_none _

pub returns-then-not-row_holds : goal.returns-then-not-row_holds
returns-then-not-row_holds c =
    energies_no _ _ _ (rows_stop _ _ c.loop-i.invariant c.energy_row-r.ensures c.row_holds.ensures _ c.loop-i-test.true (ap not c.if-not-row_holds.true))

pub add_row-requires : goal.add_row-requires
add_row-requires c = rows_room _ _ c.loop-i.invariant c.energy_row-r.ensures c.row_holds.ensures (ap not c.if-not-row_holds.false) (rw c.energy_row-r.ensures c.head_at-head.ensures) _ c.requires.in_bounds.1.1 c.loop-i-test.true

pub loop-i-preserved : goal.loop-i-preserved
loop-i-preserved c = rows_more _ _ c.loop-i.invariant c.energy_row-r.ensures c.row_holds.ensures (ap not c.if-not-row_holds.false) (rw c.energy_row-r.ensures c.head_at-head.ensures) (search rules) (search rules) c.add_row.ensures c.key_of-before.ensures

pub loop-g-init : goal.loop-g-init
loop-g-init c = all_none _

pub loop-g-preserved : goal.loop-g-preserved
loop-g-preserved c = all_more _ _ c.loop-g.invariant c.entry_holds-good.ensures

pub returns : goal.returns
returns c = energies_yes _ _ _ c.requires.by_index (rows_all _ _ _ c.loop-i.invariant (omega arith) (omega arith)) (all_done _ _ _ c.loop-g.invariant (omega arith) (omega arith))
