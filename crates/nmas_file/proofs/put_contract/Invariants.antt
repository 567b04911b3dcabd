-- `nmas_file::put_contract` meets its contract. The invariant: the rows of the regions so far are put. Assumes nothing.
use Rattle.records.specs.Rows.{entry_row}
use Rattle.totals.specs.Inner.Totals.{entry_of}
use Rattle.accounts.specs.Rows.{joined}
use Rattle.nmas.specs.Rows.{text_of}
use Rattle.nmas_file.specs.File.{region_rows}
use Rattle.nmas_file.proofs.put_contract.Given as goal

abbrev pub invariant-loop-g : goal.invariant-loop-g
invariant-loop-g g l =
    g.P.Puts.puts l.initial.text l.place (text_of (joined (region_rows l.head (entry_row l.regions) (entry_of l.own) l.k) l.g)) l.text l.end
