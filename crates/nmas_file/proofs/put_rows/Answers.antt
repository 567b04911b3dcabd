-- `nmas_file::put_rows` meets its contract. The invariant: the rows of the contracts so far are put. Assumes nothing.
use Rattle.ground.specs.Bytes.{part_from}
use Rattle.records.specs.Rows.{entry_row, contract_row}
use Rattle.nmas_file.proofs.Texts.{rows_none, rows_room, rows_more}
use Rattle.nmas_file.proofs.Walked.{fileable_at, room_at, put_at}
use Rattle.nmas_file.proofs.put_rows.Goals as goal

pub loop-i-init : goal.loop-i-init
loop-i-init g c = rows_none _ g.met.P.Puts.in_turn _ _

pub put_settled-end-requires : goal.put_settled-end-requires
put_settled-end-requires g c = let turn = c.loop-i-test.true in
    let row = c.contract_row-k.ensures in
    let put = g.met.P.Puts.in_turn in
    record { in_bounds = (c.requires.in_bounds.0, c.requires.in_bounds.1.0); fileable_in = fileable_at c.args.head (entry_row (part_from 24 c.args.book.now)) (entry_row (part_from 24 c.args.locked.now)) c.args.own.now (contract_row c.args.contracts.now) _ row (c.requires.by_index _ turn); k_in_bounds = room_at c.args.head (entry_row (part_from 24 c.args.book.now)) (entry_row (part_from 24 c.args.locked.now)) c.args.own.now (contract_row c.args.contracts.now) _ row put (rows_room _ put _ c.loop-i.invariant _ turn c.requires.n_in_bounds) }

pub loop-i-preserved : goal.loop-i-preserved
loop-i-preserved g c = let put = g.met.P.Puts.in_turn in
    rows_more _ put _ c.loop-i.invariant (put_at c.args.head (entry_row (part_from 24 c.args.book.now)) (entry_row (part_from 24 c.args.locked.now)) c.args.own.now (contract_row c.args.contracts.now) _ c.contract_row-k.ensures put c.put_settled-end.ensures)
