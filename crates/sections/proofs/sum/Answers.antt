-- `sections::sum` meets its contract. The invariant: what the records so far come to, and under each bound of one that it is that often at most. Assumes nothing.
use native.Mathlib.Omega.{arith}
use native.Mathlib.Numerals.{add-one}
use native.Mathlib.Nat.{suc-mul}
use Rattle.sections.proofs.Total.{total_none, total_more}
use Rattle.sections.proofs.sum.Goals as goal

pub loop-record-init : goal.loop-record-init
loop-record-init g c = record { sum = λ f a. total_none f; bound = λ b h. omega arith }

pub overflow_add-sum : goal.overflow_add-sum
overflow_add-sum g c = omega (arith, c.loop-record.invariant.bound 65_536 c.requires.small, c.requires.small _ _ c.loop-record-test.true c.number-sum.ensures, c.requires.few)

pub loop-record-preserved : goal.loop-record-preserved
loop-record-preserved g c =
    record {
      sum = λ f a. total_more f _ (c.loop-record.invariant.sum f a) (a _ _ c.loop-record-test.true c.number-sum.ensures);
      bound = λ b h. rw (add-one, suc-mul) (omega (arith, c.loop-record.invariant.bound b h, h _ _ c.loop-record-test.true c.number-sum.ensures));
    }
