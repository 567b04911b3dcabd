-- `amounts::shares::by_energy` meets its contract. A pool of one side is shared once; of two, each side is a rounded share. A rounded
-- share is no larger than its pool. Assumes nothing.
use mir.Syntax.{w64}
use mathlib.Core.Path.{ap, ap₂, ◌∙◌}
use lib.Dec.{eqb}
use mir.Facts.{to_z-of_z}
use borrow.Author.Rules.{sfits_of}
use Rattle.amounts.specs.Shares.{by_energy}
use Rattle.numbers.specs.Sign.{signed, less}
use Rattle.amounts.proofs.Signed.{side_shared}
use Rattle.amounts.proofs.shares.by_energy.Goals as goal

pub returns-then-credit-charge : goal.returns-then-credit-charge
returns-then-credit-charge c = to_z-of_z {w = w64} (sfits_of c.signed.type_inv) ∙ c.signed.ensures ∙ ap (signed (eqb c.args.credit 0)) c.share.ensures ∙ side_shared c.args.credit c.args.charge c.args.own c.args.total c.if-credit-charge.true

pub returns : goal.returns
unfolding by_energy
returns c = to_z-of_z {w = w64} (sfits_of c.net.type_inv) ∙ c.net.ensures ∙ ap₂ less c.share-2.ensures c.share-3.ensures
