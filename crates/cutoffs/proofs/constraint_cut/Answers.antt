-- `cutoffs::constraint_cut` meets its contract. By the mode of the constraint. Assumes nothing.
use native.Mathlib.Omega.{arith}
use Rattle.book.specs.Laid.{book_at}
use Rattle.balance.proofs.Resting.{total_there}
use Rattle.cutoffs.proofs.Ends.{shape_live, shape_0, shape_past}
use Rattle.cutoffs.proofs.constraint_cut.Goals as goal

pub returns-then-r-ne-CONTINGENCY : goal.returns-then-r-ne-CONTINGENCY
returns-then-r-ne-CONTINGENCY c = shape_live (book_at c.args.book.now) _ _ _ (rw c.constraints.ensures.bytes at c.constraint_row-r.ensures) (λ z. omega (arith, c.if-r-ne-CONTINGENCY.true)) c.regulation.ensures

pub line-requires : goal.line-requires
line-requires c = let row = rw c.constraints.ensures.bytes at c.constraint_row-r.ensures in
    (total_there (book_at c.args.book.now) c.of.ensures c.args.j row c.requires.sound.1, rw row (c.requires.sound.0.fields.constraints _ c.requires.j_lt_constraints.0).cost)

pub returns-then-index-eq0 : goal.returns-then-index-eq0
returns-then-index-eq0 c = shape_0 (book_at c.args.book.now) _ _ _ (rw c.constraints.ensures.bytes at c.constraint_row-r.ensures) (omega (arith, c.if-r-ne-CONTINGENCY.false)) c.if-index-eq0.true c.of.ensures c.line.ensures

pub returns : goal.returns
returns c = shape_past (book_at c.args.book.now) _ _ _ (rw c.constraints.ensures.bytes at c.constraint_row-r.ensures) (omega (arith, c.if-r-ne-CONTINGENCY.false)) (λ z. omega (arith, c.if-index-eq0.false))
