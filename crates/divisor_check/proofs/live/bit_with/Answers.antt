-- `divisor_check::live::bit_with` meets its contract. The test decides the case. Assumes nothing.
use Prim.Native.Nat.{ℕ, ◌^◌}
use mathlib.Core.Path.{ap, ◌∙◌}
use borrow.Author.Tests.{eq-eqb, ne_eqb}
use Rattle.divisor_check.specs.Inner.Live.{bit_with}
use Rattle.divisor_check.proofs.live.bit_with.Goals as goal

pub returns-then-energy-eq0 : goal.returns-then-energy-eq0
unfolding bit_with
returns-then-energy-eq0 c = rw (eq-eqb _ 0 c.if-energy-eq0.true)

pub returns : goal.returns
unfolding bit_with
returns c = rw (ne_eqb _ 0 c.if-energy-eq0.false) (c.bit.ensures ∙ ap (λ (n : ℕ). 2 ^ n) c.of.ensures)
