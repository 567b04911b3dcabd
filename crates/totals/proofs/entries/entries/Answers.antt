-- `totals::entries::entries` meets its contract. The test of each entry against the sums is the rule. Assumes nothing.
use mathlib.Core.Path.{refl}
use Rattle.std.proofs.Common.{of_calls}
use Rattle.totals.proofs.Turns.{entry_is_at}
use Rattle.totals.proofs.entries.entries.Goals as goal

pub returns : goal.returns
returns c = c.first_bad.ensures.first _ (λ g b l e. entry_is_at _ _ _ _ c.by_region-t.ensures l refl (search (of_calls, e)))
