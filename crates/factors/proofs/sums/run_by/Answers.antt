-- `factors::sums::run_by` meets its contract. The invariant: the rows so far belong to the run, their sums are made and fit, and `last` is the unit of the row before. Assumes nothing.
use mathlib.Core.Path.{refl, sym, ◌∙◌}
use native.Mathlib.Omega.{arith}
use Rattle.records.specs.Rows.{unit_row}
use Rattle.factors.specs.Inner.Runs.{plus, minus, default}
use Rattle.factors.proofs.Runs.{of_three, none_summed, before_first, before_more, from_none, from_more, each_none, each_more, run_ended}
use Rattle.factors.proofs.sums.run_by.Goals as goal

pub loop-u-init : goal.loop-u-init
loop-u-init g c =
    record {
      next = refl;
      last = before_first _ _ _ (omega arith);
      room = λ k. omega (arith, none_summed c.args.from k);
      sum = from_none _ _;
      each = λ test h. each_none _ _ test;
    }

pub returns-then-not-belongs : goal.returns-then-not-belongs
returns-then-not-belongs g c test h =
    let i = c.loop-u.invariant in
    run_ended _ _ test _ i.next i.sum (i.each test h) (omega arith) (omega arith) (λ l. rw (← c.unit_row-r.ensures, ← i.last) (sym (h _ _ _ c.belongs.ensures) ∙ c.if-not-belongs.true))

pub add-t-requires : goal.add-t-requires
add-t-requires g c =
    let i = c.loop-u.invariant in
    (omega (arith, i.next), (omega (arith, i.room plus), (omega (arith, i.room minus), omega (arith, i.room default))))

pub loop-u-preserved : goal.loop-u-preserved
loop-u-preserved g c =
    let i = c.loop-u.invariant in
    let read = c.unit_row-r.ensures in
    let t = c.add-t.ensures in
    record {
      next = omega (arith, t.next, i.next);
      last = before_more _ _ _ _ (omega arith) refl (rw read);
      room = of_three _ (omega (arith, t.sum plus, i.room plus)) (omega (arith, t.sum minus, i.room minus)) (omega (arith, t.sum default, i.room default));
      sum = λ k. from_more (unit_row c.args.units.now) c.args.from c.loop-u.u k (i.sum k) (omega arith) read t;
      each = λ test h. each_more _ _ test _ (i.each test h) read i.last (h _ _ _ c.belongs.ensures) c.if-not-belongs.false;
    }

pub returns : goal.returns
returns g c test h =
    let i = c.loop-u.invariant in
    run_ended _ _ test _ i.next i.sum (i.each test h) (omega arith) (omega arith) (λ l. absurd (omega (arith, l)))
