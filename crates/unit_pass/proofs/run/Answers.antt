-- `unit_pass::run` meets its contract. A row follows the one before it by its unit exactly where it is above it. Assumes nothing.
use Rattle.std.proofs.Common.{of_calls}
use Rattle.unit_pass.proofs.Turns.{taken_by}
use Rattle.unit_pass.proofs.run.Goals as goal

pub returns : goal.returns
returns c = taken_by _ _ _ _ c.requires.under (c.run_by.ensures _ (λ r last b e. search (of_calls, e)))
