-- `count::contract_count` meets its contract. The invariant: the lines of the regions so far are counted. Assumes nothing.
use Prim.Native.Nat.{◌≤◌, ◌*◌}
use mathlib.Core.Path.{◌≡◌}
use Rattle.sections.specs.Total.{total}
use Rattle.rules.specs.Rules.{factor_of}
use Rattle.groups.specs.Inner.Each.{region_each}
use Rattle.count.proofs.contract_count.Given as goal

abbrev pub invariant-loop-factor : goal.invariant-loop-factor
invariant-loop-factor l = (l.lines ≡ total (λ g. region_each (factor_of l.fn.k.factors g)) l.factor-index) × (l.lines ≤ l.factor-index * 2)
