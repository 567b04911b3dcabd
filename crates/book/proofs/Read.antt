-- A header is the one of the bytes where each of its fields is. Assumes nothing.
use Prim.Native.Nat.{ℕ}
use mathlib.Core.List.{List}
use mathlib.Core.Path.{◌≡◌}
use Rattle.ground.specs.Bytes.{u16_at, u32_at}
use Rattle.book.specs.Header.{header_of}
use Rattle.book.specs.declared.header.Header.{Header}

pub header_is : (b : List ℕ) (h : Header) → h.interval ≡ u16_at b 6 → h.date ≡ u32_at b 8 → h.run ≡ u16_at b 12 → h.constraints ≡ u16_at b 14 → h.units ≡ u16_at b 16 → h.energies ≡ u16_at b 18 → h.contracts ≡ u16_at b 20 → h ≡ header_of b
unfolding header_of
header_is b h i d r c u e k = λ j. record { interval = i j; date = d j; run = r j; constraints = c j; units = u j; energies = e j; contracts = k j }
