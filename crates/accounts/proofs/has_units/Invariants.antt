-- `accounts::has_units` meets its contract. The invariant: no row so far is the account's. Assumes nothing.
use Prim.Native.Nat.{ℕ, ◌<◌}
use mathlib.Core.Path.{◌≡◌}
use Rattle.records.specs.Rows.{unit_row}
use Rattle.accounts.proofs.has_units.Given as goal

abbrev pub invariant-loop-i : goal.invariant-loop-i
invariant-loop-i l = (k : ℕ) → k < l.i → (unit_row l.units k).account ≡ l.account → ⊥
