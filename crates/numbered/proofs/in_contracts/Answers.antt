-- `numbered::in_contracts` meets its contract. The invariant: the lines of the contracts so far are passed. Assumes nothing.
use Rattle.ground.specs.Bytes.{part_from}
use Rattle.records.specs.Rows.{entry_row}
use Rattle.lookup.proofs.Answered.{past_told}
use Rattle.lookup.proofs.Joined.{pass_none, pass_all}
use Rattle.numbered.proofs.Records.{paid_found, paid_passed}
use Rattle.numbered.proofs.in_contracts.Goals as goal

pub loop-i-init : goal.loop-i-init
loop-i-init c = pass_none _ _

pub returns-in-Ok : goal.returns-in-Ok
returns-in-Ok c = paid_found (entry_row (part_from 24 c.args.book.now)) (entry_row (part_from 24 c.args.locked.now)) c.args.own _ _ _ c.loop-i.invariant c.contract_row-k.ensures c.in_contract.ensures _ c.loop-i-test.true c.in-Ok.is

pub loop-i-preserved : goal.loop-i-preserved
loop-i-preserved c = paid_passed (entry_row (part_from 24 c.args.book.now)) (entry_row (part_from 24 c.args.locked.now)) c.args.own _ _ _ c.loop-i.invariant c.contract_row-k.ensures c.in_contract.ensures c.in-Err.is

pub returns : goal.returns
returns c = past_told _ _ (pass_all _ _ _ c.loop-i.invariant _ c.loop-i.auto.i-end c.loop-i-test.false)
