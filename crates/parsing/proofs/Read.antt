-- A header and a line are the ones of the bytes where each of their fields is. Assumes nothing.
use Prim.Native.Nat.{ℕ, ◌+◌}
use mathlib.Core.List.{List}
use mathlib.Core.Path.{◌≡◌}
use Rattle.ground.specs.Bytes.{byte_at, u16_at, u32_at, i64_at}
use Rattle.statement.specs.declared.Heading.{Heading}
use Rattle.statement.specs.declared.Line.{Line}
use Rattle.parsing.specs.Parsing.{heading_at, line_from, line_at}

pub heading_is : (s : List ℕ) (h : Heading) → h.account ≡ u32_at s 16 → h.date ≡ u32_at s 8 → h.interval ≡ u16_at s 6 → h.run ≡ u16_at s 12 → h.lines ≡ u16_at s 14 → h ≡ heading_at s
unfolding heading_at
heading_is s h a d i r n = λ j. record { account = a j; date = d j; interval = i j; run = r j; lines = n j }

pub line_is : (s : List ℕ) (i : ℕ) (l : Line) → l.id ≡ u32_at s (line_from i) → l.part ≡ byte_at s (line_from i + 4) → l.regions ≡ byte_at s (line_from i + 5) → l.unit ≡ u32_at s (line_from i + 8) → l.amount ≡ i64_at s (line_from i + 16) → l ≡ line_at s i
unfolding line_at
line_is s i l a b c d e = λ j. record { id = a j; part = b j; regions = c j; unit = d j; amount = e j }
