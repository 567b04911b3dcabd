-- `sections::first_bad` meets its contract. The invariant: no record so far is refused. Assumes nothing.
use Rattle.std.proofs.Common.{◌≡◌, ℕ, Bool, None}
use Rattle.sections.specs.First.{first_bad}
use Rattle.sections.specs.Inner.Tests.{AnswersAs}
use Rattle.sections.proofs.first_bad.Given as goal

abbrev pub invariant-loop-i : goal.invariant-loop-i
invariant-loop-i g l = (t : ℕ → Bool) → AnswersAs (goal.F-post g l.test) l.n t → first_bad t l.i ≡ None
