-- `count::unit_lines` meets its contract. No constraint is of mode 2, and the account's rows have three lines each, or they are asked one by one.
-- Assumes nothing.
use mathlib.Core.Path.{sym, ◌∙◌}
use Rattle.count.proofs.Counting.{threes_counted}
use Rattle.count.proofs.unit_lines.Goals as goal

pub returns-then-none_default : goal.returns-then-none_default
returns-then-none_default c = threes_counted _ _ _ _ _ c.requires.countable (sym c.none_default.ensures ∙ c.if-none_default.true) c.own_rows.ensures.0
