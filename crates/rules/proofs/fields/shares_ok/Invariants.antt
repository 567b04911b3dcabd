-- `rules::fields::shares_ok` meets its contract. The invariant: the factors so far are tested and summed. Assumes nothing.
use Prim.Native.Nat.{◌≤◌, ◌*◌}
use mathlib.Core.Path.{◌≡◌}
use lib.Dec.{leb}
use Rattle.sections.specs.Search.{all}
use Rattle.sections.specs.Total.{total}
use Rattle.rules.specs.Rules.{factor_of}
use Rattle.rules.proofs.fields.shares_ok.Given as goal

abbrev pub invariant-loop-factor : goal.invariant-loop-factor
invariant-loop-factor l = (l.each ≡ all (λ g. leb (factor_of l.fn.f g) 1_000_000) l.factor-index) × (l.sum ≡ total (factor_of l.fn.f) l.factor-index) × (l.sum ≤ l.factor-index * 4_294_967_295)
