-- `settlement::held_by` meets its contract: what an account holds of a book's energies, it holds of the book. Assumes nothing.
use mathlib.Core.Path.{subst}
use Rattle.totals.specs.Inner.Energies.{Energies}
use Rattle.accounts.specs.Inner.Held.{HeldIs}
use Rattle.settlement.proofs.held_by.Goals as goal

pub returns : goal.returns
returns c = subst (λ (E : Energies). HeldIs E.row E.rows c.args.account c.own_energy.new.own c.own_energy.result) c.of.ensures c.own_energy.ensures
