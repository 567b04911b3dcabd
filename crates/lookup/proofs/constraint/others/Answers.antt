-- `lookup::constraint::others` meets its contract. There are as many as the mode says. Assumes nothing.
use native.Mathlib.Omega.{arith}
use Rattle.records.specs.Rows.{entry_row}
use Rattle.totals.specs.Divisors.{over_regions}
use Rattle.totals.specs.Inner.Totals.{entry_of}
use Rattle.lookup.proofs.Answered.{line_told}
use Rattle.lookup.proofs.OneConstraint.{other_length, past_others}
use Rattle.lookup.proofs.constraint.others.Goals as goal

pub other_line-requires-clause-i_in_bounds : goal.other_line-requires-clause-i_in_bounds
other_line-requires-clause-i_in_bounds c = omega (arith, c.if-number-lines.true, c.lines_each-lines.ensures.0, other_length c.args.r (over_regions (entry_of c.args.own.now) c.args.r) (over_regions (entry_row c.args.regions.now) c.args.r))

pub returns-then-number-lines : goal.returns-then-number-lines
returns-then-number-lines c = line_told _ _ c.other_line.ensures

pub returns : goal.returns
returns c = past_others _ _ _ _ c.lines_each-lines.ensures.0 c.if-number-lines.false
