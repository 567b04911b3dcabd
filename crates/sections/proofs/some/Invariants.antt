-- `sections::some` meets its contract. The invariant: whether one of the records so far passes. Assumes nothing.
use Rattle.std.proofs.Common.{◌≡◌, ℕ, Bool}
use Rattle.sections.specs.Search.{some}
use Rattle.sections.specs.Inner.Tests.{AnswersAs}
use Rattle.sections.proofs.some.Given as goal

abbrev pub invariant-loop-record : goal.invariant-loop-record
invariant-loop-record g l = (t : ℕ → Bool) → AnswersAs (goal.F-post g l.test) l.n t → l.found ≡ some t l.record
