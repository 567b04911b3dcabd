-- `census::find` meets its contract. The invariant, `Way`: all links before this slot lead to rows of other accounts. The way goes up in the list of links: the measure is what is left of it. Assumes nothing.
use Prim.Native.Nat.{◌-◌}
use Rattle.records.specs.Rows.{unit_row}
use Rattle.sharing.specs.Accounts.{unit_account}
use Rattle.census.proofs.Tree.{Way}
use Rattle.census.proofs.find.Given as goal

abbrev pub invariant-loop-link : goal.invariant-loop-link
invariant-loop-link l = Way (unit_account (unit_row l.units)) l.u l.links l.a l.slot l.bits l.link

abbrev pub decreases-loop-link : goal.decreases-loop-link
decreases-loop-link l = 1456 - l.slot
