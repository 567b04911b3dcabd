-- `joint::unit_adds` meets its contract. The row goes into the tree in any case; it adds where each of the three says that its account is new. Assumes nothing.
use native.Mathlib.Omega.{arith}
use Rattle.joint.proofs.Known.{adds_known, adds_before, adds_energy, adds_new}
use Rattle.joint.proofs.unit_adds.Goals as goal

pub returns-then-known-clause-value : goal.returns-then-known-clause-value
returns-then-known-clause-value c = adds_known _ _ _ _ c.if-known.true

pub returns-then-x-eq0-clause-value : goal.returns-then-x-eq0-clause-value
returns-then-x-eq0-clause-value c = adds_before _ _ _ _ c.new_unit-x.ensures.value (omega (arith, c.if-x-eq0.true))

pub returns-then-in_energies-clause-value : goal.returns-then-in_energies-clause-value
returns-then-in_energies-clause-value c = adds_energy _ _ _ _ c.unit_account.ensures c.in_energies.ensures c.if-in_energies.true

pub returns-clause-value : goal.returns-clause-value
returns-clause-value c = adds_new _ _ _ _ c.new_unit-x.ensures.value (λ z. omega (arith, z, c.if-x-eq0.false)) c.unit_account.ensures c.in_energies.ensures c.if-in_energies.false c.if-known.false
