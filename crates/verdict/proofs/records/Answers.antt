-- `verdict::records` meets its contract. None of 5 to 9 refuses the book, or they are asked one by one. Assumes nothing.
use mathlib.Core.Path.{sym, ◌∙◌}
use Rattle.passes.proofs.NoneRefuses.{accepts_only}
use Rattle.verdict.proofs.records.Goals as goal

pub returns-then-none_refuses : goal.returns-then-none_refuses
returns-then-none_refuses c = accepts_only _ (sym c.if-none_refuses.true ∙ c.none_refuses.ensures)
