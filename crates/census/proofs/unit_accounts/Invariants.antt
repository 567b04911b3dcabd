-- `census::unit_accounts` meets its contract. The invariant: the rows so far stand in the tree, and the count is the number of their accounts. Assumes nothing.
use mathlib.Core.Path.{◌≡◌}
use mathlib.Core.List.{[]}
use lib.ListN.{length}
use Rattle.records.specs.Rows.{unit_row}
use Rattle.census.specs.Inner.Tree.{Grown}
use Rattle.sharing.specs.Once.{named}
use Rattle.sharing.specs.Accounts.{unit_account}
use Rattle.census.proofs.unit_accounts.Given as goal

abbrev pub invariant-loop-u : goal.invariant-loop-u
invariant-loop-u l = (l.count ≡ length (named (unit_account (unit_row l.units)) l.u [])) × Grown (unit_account (unit_row l.units)) l.u l.links
