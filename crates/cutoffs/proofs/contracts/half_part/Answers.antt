-- `cutoffs::contracts::half_part` meets its contract. Each half has the energy that shares it. Assumes nothing.
use Rattle.records.specs.Rows.{entry_row}
use Rattle.cutoffs.proofs.Made.{consumed_is, sent_is}
use Rattle.cutoffs.proofs.contracts.half_part.Goals as goal

pub returns-in-Consumed : goal.returns-in-Consumed
returns-in-Consumed c = rw c.in-Consumed.is (consumed_is _ _ (entry_row c.args.e.bytes.now) c.halves_of-x.ensures c.entry_row-entry.ensures c.of.ensures c.bit-mask.ensures)

pub returns-in-SentOut : goal.returns-in-SentOut
returns-in-SentOut c = rw c.in-SentOut.is (sent_is _ _ (entry_row c.args.e.bytes.now) c.halves_of-x.ensures c.entry_row-entry.ensures c.of.ensures c.bit-mask.ensures)
