-- `factors::sums::run` meets its contract. The rows of a constraint stand side by side, so that the run to the first row of another has them all. Assumes nothing.
use Rattle.std.proofs.Common.{of_calls}
use Rattle.factors.proofs.Runs.{run_of_key}
use Rattle.factors.proofs.sums.run.Goals as goal

pub returns : goal.returns
returns c = run_of_key _ _ _ _ c.requires.walked c.requires.stands (c.run_by.ensures _ (λ r last b e. search (of_calls, e)))
