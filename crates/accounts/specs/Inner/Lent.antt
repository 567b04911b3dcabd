-- What is lent of a book's energies, by itself and without the bytes in which it stands. Only contracts of inner functions speak of this.
use Rattle.totals.specs.Inner.Energies.{Energies, energies_in}
use Rattle.accounts.specs.declared.energies.BookEnergies.{BookEnergies}

-- the region entries and the energy rows
abbrev pub lent : BookEnergies → Energies
lent e = energies_in e.bytes.now e.part
