-- `energy_pass::energies_hold` meets its contract. The first loop's invariant, `Rows`: the rows so far keep their rules but for a limit, each place has the sum of its region over them, and the next keeps its rules exactly where it holds after the last one's key. The second's: what is kept says whether the entries so far have their sums. Assumes nothing.
use mathlib.Core.Path.{◌≡◌}
use Rattle.sections.specs.Search.{all}
use Rattle.records.specs.Rows.{entry_row, energy_row}
use Rattle.totals.specs.Sums.{entry_is}
use Rattle.totals.specs.Inner.Totals.{sum_at}
use Rattle.energy_pass.proofs.Turns.{Rows}
use Rattle.energy_pass.proofs.energies_hold.Given as goal

abbrev pub invariant-loop-i : goal.invariant-loop-i
invariant-loop-i l = Rows (energy_row l.energy) l.i l.before l.totals

abbrev pub invariant-loop-g : goal.invariant-loop-g
invariant-loop-g l = l.good ≡ all (λ g. entry_is (entry_row l.regions g) (sum_at l.totals g)) l.g
