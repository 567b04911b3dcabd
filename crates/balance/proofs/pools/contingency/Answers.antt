-- `balance::pools::contingency` meets its contract. The cost is shared over all accounts. Assumes nothing.
use mir.Syntax.{w64}
use mathlib.Core.Path.{◌∙◌}
use borrow.Author.Rules.{sfits_of}
use mir.Facts.{to_z-of_z}
use Rattle.balance.proofs.Resting.{contingency_is}
use Rattle.balance.proofs.pools.contingency.Goals as goal

pub returns : goal.returns
returns c = contingency_is _ _ _ (to_z-of_z {w = w64} (sfits_of c.signed.type_inv) ∙ c.signed.ensures) c.over_regions-charge.ensures (to_z-of_z {w = w64} (sfits_of c.net.type_inv) ∙ c.net.ensures)
