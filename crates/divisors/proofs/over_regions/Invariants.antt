-- `divisors::over_regions` meets its contract. The invariant: each sum so far, with those of the regions that are left, is the whole, and there is room for these. The measure is how many are left. Assumes nothing.
use Prim.Native.Nat.{ℕ, ◌+◌, ◌*◌, ◌≤◌}
use lib.ListN.{length}
use Rattle.market.specs.Inner.Masks.{regions_in}
use Rattle.market.proofs.Walk.{Summed}
use Rattle.records.specs.declared.rows.Entry.{Entry}
use Rattle.divisors.specs.Inner.Shares.{HasOf}
use Rattle.divisors.proofs.Turns.{energies}
use Rattle.divisors.proofs.over_regions.Given as goal

abbrev pub invariant-loop-basis : goal.invariant-loop-basis
invariant-loop-basis g l =
    record {
      sums : (own total : ℕ → Entry) → HasOf (goal.F-post g l.has) own total → Summed (energies own l.basis) l.initial.left l.own l.left × Summed (energies total l.basis) l.initial.left l.total l.left;
      own_room : l.own + length (regions_in l.left) * 20_000_000 ≤ 100_000_000;
      total_room : l.total + length (regions_in l.left) * 20_000_000 ≤ 100_000_000;
    }

abbrev pub decreases-loop-basis : goal.decreases-loop-basis
decreases-loop-basis g l = length (regions_in l.left)
