-- `walk::contracts` meets its contract. The invariant: the lines of the contracts so far are out. Assumes nothing.
use Rattle.ground.specs.Bytes.{part_from}
use Rattle.emission.proofs.Loops.{out_start, out_room, out_more}
use Rattle.walk.proofs.Records.{contract_room, contract_out}
use Rattle.records.specs.Rows.{entry_row}
use Rattle.walk.proofs.contracts.Goals as goal

pub loop-i-init : goal.loop-i-init
loop-i-init c = out_start _

pub contract-end-requires-clause-line_room : goal.contract-end-requires-clause-line_room
contract-end-requires-clause-line_room c = contract_room (entry_row (part_from 24 c.args.book.now)) (entry_row (part_from 24 c.args.locked.now)) c.args.own.now _ _ c.contract_row-k.ensures (out_room _ _ c.loop-i.invariant _ c.loop-i-test.true c.requires.line_room)

pub loop-i-preserved : goal.loop-i-preserved
loop-i-preserved c = out_more _ _ c.loop-i.invariant (contract_out (entry_row (part_from 24 c.args.book.now)) (entry_row (part_from 24 c.args.locked.now)) c.args.own.now _ _ c.contract_row-k.ensures c.contract-end.ensures)
