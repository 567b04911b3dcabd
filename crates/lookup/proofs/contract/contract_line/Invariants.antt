-- `lookup::contract::contract_line` meets its contract. The invariant: the lines of the regions so far are passed. Assumes nothing.
use mathlib.Core.Path.{◌≡◌}
use Rattle.ground.specs.Nth.{past, nth}
use Rattle.records.specs.Rows.{entry_row}
use Rattle.totals.specs.Inner.Totals.{entry_of}
use Rattle.accounts.specs.Rows.{joined}
use Rattle.lines.specs.Lines.{region_lines}
use Rattle.lookup.proofs.contract.contract_line.Given as goal

abbrev pub invariant-loop-g : goal.invariant-loop-g
invariant-loop-g l = nth (joined (region_lines (entry_row l.regions) (entry_of l.own) l.k) l.g) l.number ≡ past l.left
