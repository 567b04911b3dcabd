-- The energies of a book, and the part of its bytes in which they lie. Only contracts of inner functions speak of this.
use Rattle.std.specs.Prelude.{◌+◌, ◌≡◌}
use Rattle.totals.specs.Inner.Energies.{Energies}
use Rattle.totals.specs.declared.entries.EnergyPart.{EnergyPart}
use Rattle.book.specs.Book.{Book}
use Rattle.book.specs.Header.{energies_from}
use Rattle.book.specs.declared.header.Header.{Header}

-- a book's region entries and energy rows
abbrev pub energies_of : Book → Energies
energies_of B = record { entry = B.entry; row = B.energy; rows = B.header.energies }

-- where they lie behind the header
pub record PartOf (h : Header) (p : EnergyPart) : Type 0 where
  pub from : p.from + 24 ≡ energies_from h
  pub rows : p.rows ≡ h.energies
