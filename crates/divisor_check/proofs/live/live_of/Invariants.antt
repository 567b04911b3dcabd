-- `divisor_check::live::live_of` meets its contract. The invariant: of each kind, the bits of the regions so far. Assumes nothing.
use Rattle.records.specs.Rows.{entry_row}
use Rattle.divisor_check.specs.Inner.Live.{LiveIs}
use Rattle.divisor_check.proofs.live.live_of.Given as goal

abbrev pub invariant-loop-g : goal.invariant-loop-g
invariant-loop-g l = LiveIs (entry_row l.regions) l.g (record { ace = l.ace; asoe = l.asoe; residual = l.residual })
