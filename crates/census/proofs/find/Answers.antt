-- `census::find` meets its contract. The invariant, `Way`: all links before this slot lead to rows of other accounts. The way goes up in the list of links: the measure is what is left of it. Assumes nothing.
use mathlib.Core.Path.{refl}
use native.Mathlib.Omega.{arith}
use Rattle.census.proofs.Tree.{way_start, way_on}
use Rattle.census.proofs.find.Goals as goal

pub loop-link-init : goal.loop-link-init
loop-link-init c = way_start _ _ _ c.key-k.ensures c.root-slot.ensures.0 c.root-slot.ensures.1 refl refl

pub loop-link-preserved : goal.loop-link-preserved
loop-link-preserved c = way_on _ _ _ c.requires.grown c.loop-link.invariant (omega arith) refl c.unit_account.ensures c.if-unit_account-a.false c.child-slot.ensures refl refl
