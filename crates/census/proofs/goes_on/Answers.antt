-- `census::goes_on` meets its contract. In rows in order, the row before tells whether an account was seen. Assumes nothing.
use native.Mathlib.Omega.{arith}
use Rattle.sharing.proofs.InOrder.{in_order}
use Rattle.census.proofs.Counting.{on_start, on_told}
use Rattle.census.proofs.goes_on.Goals as goal

pub returns-then-i-eq0 : goal.returns-then-i-eq0
returns-then-i-eq0 c = on_start _ _ (omega arith)

pub returns : goal.returns
returns c = on_told _ _ (in_order c.requires.sorted) c.requires.n_in_bounds.1 c.if-i-eq0.false c.energy_account.ensures c.energy_account-2.ensures
