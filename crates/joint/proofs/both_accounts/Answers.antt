-- `joint::both_accounts` meets its contract. The accounts of the first book, and what the rows of the locked book add to them. Assumes nothing.
use native.Mathlib.Omega.{arith}
use Rattle.census.proofs.Tree.{grown_none}
use Rattle.joint.proofs.Adding.{both_counted}
use Rattle.joint.proofs.both_accounts.Goals as goal

pub grown_accounts-first-requires-clause-grown : goal.grown_accounts-first-requires-clause-grown
grown_accounts-first-requires-clause-grown c = grown_none _

pub units_add-requires : goal.units_add-requires
units_add-requires c = grown_none _

pub returns : goal.returns
returns c = (both_counted _ _ _ _ _ c.grown_accounts-first.ensures.value.0 c.energies_add-more.ensures.0 c.mark_known.ensures c.units_add.ensures.0, omega (arith, c.grown_accounts-first.ensures.value.1, c.energies_add-more.ensures.1, c.units_add.ensures.1))
