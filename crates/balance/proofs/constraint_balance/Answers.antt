-- `balance::constraint_balance` meets its contract. By the mode of the constraint. Assumes nothing.
use Rattle.book.specs.Laid.{book_at}
use Rattle.balance.proofs.Resting.{total_there}
use Rattle.balance.proofs.Ends.{shape_0, shape_live}
use Rattle.balance.proofs.constraint_balance.Goals as goal

pub contingency-requires : goal.contingency-requires
contingency-requires c = let row = rw c.constraints.ensures.bytes at c.constraint_row-r.ensures in
    (total_there (book_at c.args.book.now) c.of.ensures c.args.j row c.requires.sound.1, rw row (c.requires.sound.0.fields.constraints _ c.requires.j_lt_constraints.0).cost)

pub returns-then-r-eq-CONTINGENCY : goal.returns-then-r-eq-CONTINGENCY
returns-then-r-eq-CONTINGENCY c = shape_0 (book_at c.args.book.now) _ _ _ (rw c.constraints.ensures.bytes at c.constraint_row-r.ensures) c.if-r-eq-CONTINGENCY.true c.of.ensures c.contingency.ensures

pub returns : goal.returns
returns c = shape_live (book_at c.args.book.now) _ _ _ (rw c.constraints.ensures.bytes at c.constraint_row-r.ensures) c.if-r-eq-CONTINGENCY.false c.regulation.ensures
