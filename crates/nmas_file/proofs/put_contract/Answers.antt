-- `nmas_file::put_contract` meets its contract. The invariant: the rows of the regions so far are put. Assumes nothing.
use Rattle.records.specs.Rows.{entry_row}
use Rattle.totals.specs.Inner.Totals.{entry_of}
use Rattle.nmas_file.specs.File.{region_rows}
use Rattle.nmas_file.proofs.Texts.{rows_none, rows_room, rows_more}
use Rattle.nmas_file.proofs.put_contract.Goals as goal

pub loop-g-init : goal.loop-g-init
loop-g-init g c = rows_none _ g.met.P.Puts.in_turn _ _

pub put_region-end-requires : goal.put_region-end-requires
put_region-end-requires g c = let turn = c.loop-g-test.true in
    record { in_bounds = (c.requires.in_bounds, turn); fileable = c.requires.fileable; g_in_bounds = rows_room (region_rows c.args.head (entry_row c.args.regions.now) (entry_of c.args.own.now) c.args.k) g.met.P.Puts.in_turn _ c.loop-g.invariant 5 turn c.requires.k_in_bounds }

pub loop-g-preserved : goal.loop-g-preserved
loop-g-preserved g c = rows_more _ g.met.P.Puts.in_turn _ c.loop-g.invariant c.put_region-end.ensures
