-- Two's complement at every width: a number by the half in which its bits lie.
-- Assumes nothing.
use Prim.Native.Nat.{ℕ, suc, ◌-◌, ◌≤◌, ◌^◌}
use mathlib.Core.Path.{◌≡◌}
use borrow.Author.Tests.{le-ltb}
use lib.IntN.{negsuc}
use mir.Syntax.{Width}
use mir.Val.{to_z, bits, hbits}

-- bits in the upper half stand for a number below 0
pub high : (w : Width) (u : ℕ) → 2 ^ hbits w ≤ u → to_z w u ≡ negsuc (2 ^ bits w - suc u)
high w u h = simp (le-ltb u (2 ^ hbits w) h)
