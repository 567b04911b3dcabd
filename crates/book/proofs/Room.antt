-- Each section lies within the book that is lent on from its offset. Assumes nothing.
use Prim.Native.Nat.{ℕ, ◌*◌, ◌-◌, ◌≤◌}
use mathlib.Core.List.{List}
use mathlib.Core.Path.{◌≡◌}
use native.Mathlib.Omega.{arith}
use lib.ListN.{length, length-drop}
use Rattle.ground.specs.Bytes.{part_from}
use Rattle.ground.proofs.Part.{part_drop}
use Rattle.book.specs.declared.header.Header.{Header}
use Rattle.book.specs.Header.{units_from, energies_from, contracts_from}
use Rattle.book.specs.Inner.Facts.{Laid}

part_long : (a : ℕ) (b : List ℕ) → length (part_from a b) ≡ length b - a
part_long a b = rw (part_drop a b) (length-drop a b)

module _ (b : List ℕ) (h : Header) (d : Laid b h) where
  pub entries_room : 60 ≤ length (part_from 24 b)
  entries_room = omega (arith, part_long 24 b, d.long)

  pub constraints_room : h.constraints * 40 ≤ length (part_from 84 b)
  constraints_room = omega (arith, part_long 84 b, d.long)

  pub units_room : (a : ℕ) → a ≡ units_from h → h.units * 20 ≤ length (part_from a b)
  units_room a e = omega (arith, part_long a b, d.long)

  pub energies_room : (a : ℕ) → a ≡ energies_from h → h.energies * 24 ≤ length (part_from a b)
  energies_room a e = omega (arith, part_long a b, d.long)

  pub contracts_room : (a : ℕ) → a ≡ contracts_from h → h.contracts * 36 ≤ length (part_from a b)
  contracts_room a e = omega (arith, part_long a b, d.long)
