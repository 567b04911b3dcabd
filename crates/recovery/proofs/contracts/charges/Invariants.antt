-- `recovery::contracts::charges` meets its contract. The invariant: the list has what the first g regions recover. Assumes nothing.
use Rattle.records.specs.Rows.{entry_row}
use Rattle.recovery.specs.Inner.Rests.{PartsAre}
use Rattle.recovery.proofs.contracts.charges.Given as goal

abbrev pub invariant-loop-g : goal.invariant-loop-g
invariant-loop-g l = PartsAre (entry_row l.e.bytes.now) l.k l.g l.parts
