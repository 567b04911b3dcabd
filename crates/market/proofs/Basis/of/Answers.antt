-- `market::Basis::of` meets its contract. The service decides. Assumes nothing.
use mathlib.Core.Path.{sym, ◌∙◌}
use Rattle.market.specs.Kinds.{basis_of}
use Rattle.market.proofs.Basis.of.Goals as goal

pub returns-then-is_regulation : goal.returns-then-is_regulation
unfolding basis_of
returns-then-is_regulation c = rw (sym c.is_regulation.ensures ∙ c.if-is_regulation.true)

pub returns-then-is_raise : goal.returns-then-is_raise
unfolding basis_of
returns-then-is_raise c = rw (sym c.is_regulation.ensures ∙ c.if-is_regulation.false, sym c.is_raise.ensures ∙ c.if-is_raise.true)

pub returns : goal.returns
unfolding basis_of
returns c = rw (sym c.is_regulation.ensures ∙ c.if-is_regulation.false, sym c.is_raise.ensures ∙ c.if-is_raise.false)
