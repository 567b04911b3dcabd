-- `balance::places::kind_at` meets its contract. The mode and the place decide. Assumes nothing.
use Rattle.balance.proofs.Finding.{is_contingency, is_fpp, is_used, third_unused, only_unused}
use Rattle.balance.proofs.places.kind_at.Goals as goal

pub returns-in-0-default : goal.returns-in-0-default
returns-in-0-default c = is_contingency _ _ c.requires c.in-0-default.is-0

pub returns-in-1-eq0 : goal.returns-in-1-eq0
returns-in-1-eq0 c = is_fpp _ _ c.requires c.in-1-eq0.is-0 c.in-1-eq0.is-1

pub returns-in-1-eq1 : goal.returns-in-1-eq1
returns-in-1-eq1 c = is_used _ _ c.requires c.in-1-eq1.is-0 c.in-1-eq1.is-1

pub returns-in_default : goal.returns-in_default
returns-in_default c = third_unused _ _ c.requires c.in_default.is-0 c.in_default.is-1.0.1 c.in_default.is-1.1

pub returns-in_default-2 : goal.returns-in_default-2
returns-in_default-2 c = only_unused _ _ c.requires c.in_default.is-0.0.1 c.in_default.is-0.1
