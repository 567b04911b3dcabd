-- `divisors::divisor` meets its contract. The total alone is asked: an account that has nothing stands beside it. Assumes nothing.
use mathlib.Core.Path.{sym, ◌∙◌}
use Rattle.std.proofs.Common.{of_calls}
use Rattle.totals.specs.Sums.{entry_with}
use Rattle.totals.proofs.Turns.{entry_with_lem}
use Rattle.divisors.proofs.divisor.Goals as goal

pub returns : goal.returns
returns c = (c.over_regions-share.ensures (λ g. entry_with (λ b. 0)) _ (λ b g x l e. (search (of_calls, e) ∙ sym (entry_with_lem (λ b. 0) b), search (of_calls, e)))).1
