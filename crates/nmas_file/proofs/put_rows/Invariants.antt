-- `nmas_file::put_rows` meets its contract. The invariant: the rows of the contracts so far are put. Assumes nothing.
use Rattle.ground.specs.Bytes.{part_from}
use Rattle.records.specs.Rows.{entry_row, contract_row}
use Rattle.accounts.specs.Rows.{joined}
use Rattle.nmas.specs.Rows.{text_of}
use Rattle.nmas_file.specs.Inner.Walks.{rows_at}
use Rattle.nmas_file.proofs.put_rows.Given as goal

abbrev pub invariant-loop-i : goal.invariant-loop-i
invariant-loop-i g l =
    g.P.Puts.puts l.initial.text 0 (text_of (joined (rows_at l.head (entry_row (part_from 24 l.book)) (entry_row (part_from 24 l.locked)) l.own (contract_row l.contracts)) l.i)) l.text l.end
