-- `sections::all` meets its contract. The invariant: whether each of the records so far passes. Assumes nothing.
use Rattle.std.proofs.Common.{◌≡◌, ℕ, Bool}
use Rattle.sections.specs.Search.{all}
use Rattle.sections.specs.Inner.Tests.{AnswersAs}
use Rattle.sections.proofs.all.Given as goal

abbrev pub invariant-loop-record : goal.invariant-loop-record
invariant-loop-record g l = (t : ℕ → Bool) → AnswersAs (goal.F-post g l.test) l.n t → l.passed ≡ all t l.record
