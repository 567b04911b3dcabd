-- `parsing::is_statement` meets its contract. Each end is a law of `Whole`. Assumes nothing.
use native.Mathlib.Omega.{arith}
use borrow.Author.Rules.{rules}
use Rattle.parsing.proofs.Whole.{too_short, not_headed, lines_decide, lines_lie}
use Rattle.parsing.proofs.is_statement.Goals as goal

pub returns-then-s-lt24 : goal.returns-then-s-lt24
returns-then-s-lt24 c = too_short _ c.if-s-lt24.true

pub returns-then-not-is_headed : goal.returns-then-not-is_headed
returns-then-not-is_headed c = not_headed _ c.if-s-lt24.false c.is_headed.ensures c.if-not-is_headed.true

pub lines_hold-requires : goal.lines_hold-requires
lines_hold-requires c = omega (arith, lines_lie _ (search rules) c.is_headed.ensures _ c.if-not-is_headed.false c.heading_at.ensures)

pub returns : goal.returns
returns c = lines_decide _ (search rules) c.is_headed.ensures _ c.if-not-is_headed.false c.heading_at.ensures c.lines_hold.ensures
