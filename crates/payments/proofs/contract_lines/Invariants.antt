-- `payments::contract_lines` meets its contract. The invariant: the lines of the regions so far are out. Assumes nothing.
use Rattle.lines.specs.Lines.{region_lines}
use Rattle.records.specs.Rows.{entry_row}
use Rattle.totals.specs.Inner.Totals.{entry_of}
use Rattle.emission.specs.Inner.Emitted.{Emitted}
use Rattle.accounts.specs.Rows.{joined}
use Rattle.payments.proofs.contract_lines.Given as goal

abbrev pub invariant-loop-g : goal.invariant-loop-g
invariant-loop-g l = Emitted l.initial.buf l.place (joined (region_lines (entry_row l.regions) (entry_of l.own) l.k) l.g) l.buf l.end
