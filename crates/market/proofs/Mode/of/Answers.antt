-- `market::Mode::of` meets its contract. The number decides the case. Assumes nothing.
use borrow.Author.Tests.{eq-eqb, ne_eqb}
use Rattle.market.specs.Kinds.{mode_with}
use Rattle.market.proofs.Mode.of.Goals as goal

pub returns-in-0 : goal.returns-in-0
unfolding mode_with
returns-in-0 c = rw (eq-eqb _ _ c.in-0.is)

pub returns-in-1 : goal.returns-in-1
unfolding mode_with
returns-in-1 c = rw c.in-1.is

pub returns-in-2 : goal.returns-in-2
unfolding mode_with
returns-in-2 c = rw c.in-2.is

pub returns-in_default : goal.returns-in_default
unfolding mode_with
returns-in_default c = let h = c.in_default.in_default-own.rest in
    rw (ne_eqb _ _ h.0.0.1, ne_eqb _ _ h.0.1, ne_eqb _ _ h.1)
