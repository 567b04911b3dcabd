-- `sections::sum` meets its contract. The invariant: what the records so far come to, and under each bound of one that it is that often at most. Assumes nothing.
use Rattle.std.proofs.Common.{◌≡◌, ℕ, ◌*◌, ◌<◌, ◌≤◌}
use Rattle.sections.specs.Total.{total}
use Rattle.sections.specs.Inner.Tests.{AnswersAs}
use Rattle.sections.proofs.sum.Given as goal

abbrev pub invariant-loop-record : goal.invariant-loop-record
invariant-loop-record g l =
    record {
      sum : (f : ℕ → ℕ) → AnswersAs (goal.F-post g l.number) l.n f → l.sum ≡ total f l.record;
      bound : (b : ℕ) → ((i x : ℕ) → i < l.n → goal.F-post g l.number i x → x ≤ b) → l.sum ≤ l.record * b;
    }
