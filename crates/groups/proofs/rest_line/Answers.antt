-- `groups::rest_line` meets its contract. The mode and the number decide which of the lines it is. Assumes nothing.
use native.Mathlib.Omega.{arith}
use Rattle.lines.specs.Lines.{rest_lines}
use Rattle.groups.proofs.Numbering.{only, first, second, third}
use Rattle.groups.proofs.rest_line.Goals as goal

pub returns-then-r-ne-FACTORED : goal.returns-then-r-ne-FACTORED
unfolding rest_lines
returns-then-r-ne-FACTORED c = only _ _ _ _ _ c.requires.i_in_bounds c.if-r-ne-FACTORED.true c.unused_rest.ensures

pub returns-in-0 : goal.returns-in-0
unfolding rest_lines
returns-in-0 c = first _ _ _ _ _ c.requires.i_in_bounds c.if-r-ne-FACTORED.false c.in-0.is c.fpp_rest.ensures

pub returns-in-1 : goal.returns-in-1
unfolding rest_lines
returns-in-1 c = second _ _ _ _ _ c.requires.i_in_bounds c.if-r-ne-FACTORED.false c.in-1.is c.used_rest.ensures

pub returns-in_default : goal.returns-in_default
unfolding rest_lines
returns-in_default c = third _ _ _ _ _ c.requires.i_in_bounds c.if-r-ne-FACTORED.false (omega arith) (omega arith) c.unused_rest-in_default.ensures
