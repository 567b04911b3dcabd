-- `walk::contracts` meets its contract. The invariant: the lines of the contracts so far are out. Assumes nothing.
use Rattle.ground.specs.Bytes.{part_from}
use Rattle.lines.specs.Inner.Walks.{contract_lines_at, totals_from, own_from}
use Rattle.records.specs.Rows.{entry_row, contract_row}
use Rattle.emission.specs.Inner.Emitted.{Emitted}
use Rattle.accounts.specs.Rows.{joined}
use Rattle.walk.proofs.contracts.Given as goal

abbrev pub invariant-loop-i : goal.invariant-loop-i
invariant-loop-i l = Emitted l.initial.buf l.place (joined (contract_lines_at (totals_from (entry_row (part_from 24 l.book)) (entry_row (part_from 24 l.locked))) (own_from l.own) (contract_row l.contracts)) l.i) l.buf l.end
