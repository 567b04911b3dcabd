-- `records::find::first_from` meets its contract. The invariant, `Between`: the key's place is from low to high. The measure is what is left. Assumes nothing.
use Prim.Native.Nat.{◌-◌}
use Rattle.sections.proofs.Halves.{Between}
use Rattle.records.specs.Inner.Lead.{lead_at}
use Rattle.records.proofs.find.first_from.Given as goal

abbrev pub invariant-loop-low : goal.invariant-loop-low
invariant-loop-low l = Between (lead_at l.s l.size) l.n l.key l.low l.high

abbrev pub decreases-loop-low : goal.decreases-loop-low
decreases-loop-low l = l.high - l.low
