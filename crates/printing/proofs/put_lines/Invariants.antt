-- `printing::put_lines` meets its contract. The invariant: the first i lines stand. Assumes nothing.
use Rattle.printing.proofs.Turns.{Listed}
use Rattle.printing.proofs.put_lines.Given as goal

abbrev pub invariant-loop-i : goal.invariant-loop-i
invariant-loop-i l = Listed l.initial.text l.at l.s l.i l.text l.e
