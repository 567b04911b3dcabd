-- `totals::entries::by_region` meets its contract. The invariant: each place has the sum of its region over the rows so far. Assumes nothing.
use mathlib.Core.Path.{refl}
use Rattle.totals.proofs.Turns.{totals_none, totals_more, totals_room}
use Rattle.totals.proofs.entries.by_region.Goals as goal

pub loop-i-init : goal.loop-i-init
loop-i-init c = totals_none _

pub add_row-requires : goal.add_row-requires
add_row-requires c = let loop = c.loop-i in
    rw c.energy_row-r.ensures (totals_room _ _ _ c.requires.n_in_bounds.1 c.requires.by_index c.loop-i-test.true loop.invariant)

pub loop-i-preserved : goal.loop-i-preserved
loop-i-preserved c = let read = c.energy_row-r.ensures in
    let loop = c.loop-i in
    let room = totals_room _ _ _ c.requires.n_in_bounds.1 c.requires.by_index c.loop-i-test.true loop.invariant in
    totals_more _ _ loop.invariant read refl (rw read room.0) c.add_row.ensures
