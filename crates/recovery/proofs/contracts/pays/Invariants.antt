-- `recovery::contracts::pays` meets its contract. The invariant: the sum is what the first i rows pay. Assumes nothing.
use mathlib.Core.Path.{◌≡◌}
use Rattle.sections.specs.Total.{total}
use Rattle.records.specs.Rows.{energy_row}
use Rattle.recovery.specs.Inner.Rests.{row_pays}
use Rattle.recovery.proofs.contracts.pays.Given as goal

abbrev pub invariant-loop-i : goal.invariant-loop-i
invariant-loop-i l = l.sum ≡ total (λ i. row_pays l.parts (energy_row l.energy i)) l.i
