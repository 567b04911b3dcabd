-- `emission::emit_unit` meets its contract. The mode decides whether there are three lines or one. Assumes nothing.
use borrow.Author.Tests.{eq-eqb, ne_eqb}
use native.Mathlib.Omega.{arith}
use Rattle.emission.proofs.Emission.{emitted_one}
use Rattle.lines.specs.Lines.{unit_lines}
use Rattle.emission.proofs.emit_unit.Goals as goal

pub emit_three-requires : goal.emit_three-requires
unfolding unit_lines
emit_three-requires c = rw (eq-eqb _ _ c.if-r-eq-FACTORED.true) at c.requires.line_room

pub returns-then-r-eq-FACTORED : goal.returns-then-r-eq-FACTORED
unfolding unit_lines
returns-then-r-eq-FACTORED c = rw (eq-eqb _ _ c.if-r-eq-FACTORED.true) (rw (c.fpp_line-fpp.ensures, c.used_line-used.ensures, c.unused_line-unused.ensures) at c.emit_three.ensures)

pub put_line-requires : goal.put_line-requires
unfolding unit_lines
put_line-requires c = omega (arith, (rw (ne_eqb _ _ c.if-r-eq-FACTORED.false) at c.requires.line_room).fits)

pub returns : goal.returns
unfolding unit_lines
returns c = rw (ne_eqb _ _ c.if-r-eq-FACTORED.false) (rw c.unused_line-unused.ensures at (emitted_one _ c.put_line.ensures))
