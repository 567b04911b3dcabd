-- `joint::in_book` meets its contract. A book has the accounts of its unit rows and of its energy rows. Assumes nothing.
use Rattle.census.proofs.Told.{grown_told}
use Rattle.joint.specs.Names.{energies_of, units_of}
use Rattle.joint.proofs.Known.{in_units, in_energies}
use Rattle.joint.proofs.in_book.Goals as goal

pub in_units-requires-clause-grown : goal.in_units-requires-clause-grown
in_units-requires-clause-grown c = grown_told _ _ c.args.book.now.grown

pub returns-then-in_units : goal.returns-then-in_units
returns-then-in_units c = let args = c.args in
    in_units (energies_of args.book.now.named.book.now args.book.now.named.rows) _ (units_of args.book.now.named.book.now args.book.now.named.rows) _ _ c.in_units.ensures c.if-in_units.true

pub returns : goal.returns
returns c = let args = c.args in
    in_energies (energies_of args.book.now.named.book.now args.book.now.named.rows) _ (units_of args.book.now.named.book.now args.book.now.named.rows) _ _ c.in_units.ensures c.if-in_units.false c.in_energies.ensures
