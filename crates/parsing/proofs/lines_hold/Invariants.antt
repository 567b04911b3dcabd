-- `parsing::lines_hold` meets its contract. The invariant: whether every line so far holds. Assumes nothing.
use mathlib.Core.Path.{◌≡◌}
use Rattle.parsing.specs.Parsing.{line_holds}
use Rattle.sections.specs.Search.{all}
use Rattle.parsing.proofs.lines_hold.Given as goal

abbrev pub invariant-loop-i : goal.invariant-loop-i
invariant-loop-i l = l.holds ≡ all (line_holds l.s) l.i
