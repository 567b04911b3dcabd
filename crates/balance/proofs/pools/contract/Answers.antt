-- `balance::pools::contract` meets its contract. Two lines of each account in each benefiting region. Assumes nothing.
use mir.Syntax.{w64}
use mathlib.Core.Path.{◌∙◌}
use borrow.Author.Rules.{sfits_of}
use mir.Facts.{to_z-of_z}
use Rattle.balance.proofs.Resting.{contract_is}
use Rattle.balance.proofs.pools.contract.Goals as goal

pub returns : goal.returns
returns c = contract_is _ _ _ c.payments-x.ensures (to_z-of_z {w = w64} (sfits_of c.signed.type_inv) ∙ c.signed.ensures) (to_z-of_z {w = w64} (sfits_of c.net.type_inv) ∙ c.net.ensures)
