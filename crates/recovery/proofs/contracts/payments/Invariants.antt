-- `recovery::contracts::payments` meets its contract. The invariant: of the factors so far, those that benefit are counted. Assumes nothing.
use Prim.Native.Nat.{◌≤◌}
use mathlib.Core.Path.{◌≡◌}
use mathlib.Core.Bool.{cond}
use lib.Dec.{eqb}
use Rattle.sections.specs.Total.{total}
use Rattle.rules.specs.Rules.{factor_of}
use Rattle.recovery.proofs.contracts.payments.Given as goal

abbrev pub invariant-loop-factor : goal.invariant-loop-factor
invariant-loop-factor l = (l.regions ≡ total (λ g. cond (eqb (factor_of l.fn.k.factors g) 0) 0 1) l.factor-index) × (l.regions ≤ l.factor-index)
