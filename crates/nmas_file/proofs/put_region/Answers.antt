-- `nmas_file::put_region` meets its contract. A region without a factor gives nothing, and any other its row. Assumes nothing.
use Rattle.records.specs.Rows.{entry_row}
use Rattle.nmas_file.proofs.Regions.{region_none, region_ranges, region_room, region_put}
use Rattle.nmas_file.proofs.put_region.Goals as goal

pub returns-then-k-g-eq0 : goal.returns-then-k-g-eq0
returns-then-k-g-eq0 g c = region_none c.args.head (entry_row c.args.regions.now) c.args.own.now c.args.k c.args.g g.met.P.Puts.in_turn c.if-k-g-eq0.true

pub put_row-requires : goal.put_row-requires
put_row-requires g c = let made = c.fields_of-fields.ensures in
    let left = c.if-k-g-eq0.false in
    record { by_index = region_ranges c.args.head (entry_row c.args.regions.now) c.args.own.now c.args.k c.args.g left made c.requires.fileable c.requires.in_bounds.1; fields_in_bounds = region_room c.args.head (entry_row c.args.regions.now) c.args.own.now c.args.k c.args.g left made g.met.P.Puts.in_turn c.requires.g_in_bounds }

pub returns : goal.returns
returns g c = region_put c.args.head (entry_row c.args.regions.now) c.args.own.now c.args.k c.args.g c.if-k-g-eq0.false c.fields_of-fields.ensures g.met.P.Puts.in_turn c.put_row.ensures
