-- `dispatch::tally` meets its contract. The invariant: the rows so far have no fault, what is kept of the last one is its key and what its id and
-- service came to, and the sum asked for is over the rows so far. It starts behind the ordinary rows. Assumes nothing.
use mathlib.Core.Path.{ap}
use mathlib.Core.Bool.{not}
use native.Mathlib.Omega.{arith}
use borrow.Author.Rules.{rules}
use Rattle.dispatch.proofs.Turns.{run_limit, row_told, sum_told, sum_limit, passed_more, sum_asked, asked_room}
use Rattle.dispatch.proofs.Ends.{pass_stop, pass_short, pass_all}
use Rattle.dispatch.proofs.tally.Goals as goal

pub sum_with-sum-requires : goal.sum_with-sum-requires
sum_with-sum-requires c = run_limit _ _ c.loop-i.invariant.0

pub returns-then-not-row_holds : goal.returns-then-not-row_holds
returns-then-not-row_holds c = pass_stop _ _ _ c.loop-i.invariant.0.good
    (row_told _ _ c.loop-i.invariant.0 (search rules) c.dispatch_row-r.ensures c.sum_with-sum.ensures c.row_holds.ensures)
    (ap not c.if-not-row_holds.true)
    (search rules)

pub with_row-asked-requires : goal.with_row-asked-requires
with_row-asked-requires c = let p = c.loop-i.invariant.0 in
    let e = c.dispatch_row-r.ensures in
    let q = c.sum_with-sum.ensures in
    let t = c.row_holds.ensures in
    let f = ap not c.if-not-row_holds.false in
    asked_room _ _ _ _ e c.is_asked.ensures c.loop-i.invariant.1 _ (sum_told _ _ p (search rules) e q t f) (sum_limit _ _ p (search rules) e q t f)

pub loop-i-preserved : goal.loop-i-preserved
loop-i-preserved c = let p = c.loop-i.invariant.0 in
    let e = c.dispatch_row-r.ensures in
    let q = c.sum_with-sum.ensures in
    let t = c.row_holds.ensures in
    let f = ap not c.if-not-row_holds.false in (
      passed_more _ _ p (search rules) e q t f c.key-before.ensures,
      sum_asked _ _ _ _ e c.is_asked.ensures c.loop-i.invariant.1 c.with_row-asked.ensures,
    )

pub returns-then-n-s : goal.returns-then-n-s
returns-then-n-s c = pass_short _ _ _ _ c.loop-i.invariant.0.good (omega arith) (omega arith) c.if-n-s.true

pub returns : goal.returns
returns c = pass_all _ _ _ _ c.loop-i.invariant.0.good c.loop-i.invariant.1 (omega arith) (omega arith)
