-- `accounts::has_units` meets its contract. The invariant: no row so far is the account's. Assumes nothing.
use native.Mathlib.Omega.{arith}
use Rattle.accounts.proofs.Turns.{unit_found, unit_none}
use Rattle.accounts.proofs.has_units.Goals as goal

pub returns-then-unit_row-account : goal.returns-then-unit_row-account
returns-then-unit_row-account c = unit_found _ _ _ _ c.loop-i-test.true c.unit_row.ensures (omega arith)

pub returns : goal.returns
returns c = unit_none _ _ _ _ c.loop-i.invariant c.loop-i-test.false
