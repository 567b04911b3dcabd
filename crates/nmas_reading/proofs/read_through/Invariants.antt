-- `nmas_reading::read_through` meets its contract. The invariant: the text so far is rows, and where the one that is asked for begins is kept. The measure is what is left of the text. Assumes nothing.
use Prim.Native.Nat.{◌-◌}
use mathlib.Core.Path.{◌≡◌}
use lib.ListN.{length}
use Rattle.nmas_reading.proofs.Texts.{Begun}
use Rattle.nmas_reading.proofs.read_through.Given as goal

abbrev pub invariant-loop-at : goal.invariant-loop-at
invariant-loop-at l = (length l.fields ≡ 17) × Begun l.text l.index l.asked l.rows l.at

abbrev pub decreases-loop-at : goal.decreases-loop-at
decreases-loop-at l = length l.text - l.at
