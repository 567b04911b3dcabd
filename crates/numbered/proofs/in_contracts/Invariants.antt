-- `numbered::in_contracts` meets its contract. The invariant: the lines of the contracts so far are passed. Assumes nothing.
use mathlib.Core.Path.{◌≡◌}
use Rattle.ground.specs.Bytes.{part_from}
use Rattle.ground.specs.Nth.{past, nth}
use Rattle.records.specs.Rows.{entry_row, contract_row}
use Rattle.accounts.specs.Rows.{joined}
use Rattle.lines.specs.Inner.Walks.{contract_lines_at, totals_from, own_from}
use Rattle.numbered.proofs.in_contracts.Given as goal

abbrev pub invariant-loop-i : goal.invariant-loop-i
invariant-loop-i l = nth (joined (contract_lines_at (totals_from (entry_row (part_from 24 l.book)) (entry_row (part_from 24 l.locked))) (own_from l.own) (contract_row l.contracts)) l.i) l.number ≡ past l.left
