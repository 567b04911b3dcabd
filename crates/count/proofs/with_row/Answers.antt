-- `count::with_row` meets its contract. The account owns the row, whose constraint is then found, or nothing is added. Assumes nothing.
use native.Mathlib.Omega.{arith}
use Rattle.count.proofs.Counting.{named_at, met_skip, met_own}
use Rattle.count.proofs.with_row.Goals as goal

pub returns-then-q-account : goal.returns-then-q-account
returns-then-q-account c = met_skip _ _ _ _ _ c.requires.countable _ c.requires.met_at c.unit_row-q.ensures c.if-q-account.true

pub constraint_row-requires : goal.constraint_row-requires
constraint_row-requires c = omega (arith, c.requires.n_in_bounds.0, (named_at _ _ _ _ c.args.account c.requires.countable _ _ c.requires.n_in_bounds.1.1 (rw c.unit_row-q.ensures at c.seek-cursor.ensures)).0)

pub returns : goal.returns
returns c = met_own _ _ _ _ _ c.requires.countable _ _ c.requires.n_in_bounds.1.1 c.requires.met_at c.unit_row-q.ensures c.if-q-account.false c.seek-cursor.ensures c.constraint_row.ensures c.lines_each.ensures.0 c.lines_each.ensures.1
