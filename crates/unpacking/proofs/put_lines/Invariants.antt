-- `unpacking::put_lines` meets its contract. The invariant: the first i lines stand at the front. Assumes nothing.
use Prim.Native.Nat.{◌*◌}
use Rattle.ground.specs.Inner.Put.{Wrote}
use Rattle.parsing.specs.Parsing.{lines_in}
use Rattle.unpacking.specs.Unpacking.{all_fields}
use Rattle.unpacking.proofs.put_lines.Given as goal

abbrev pub invariant-loop-i : goal.invariant-loop-i
invariant-loop-i l = Wrote l.initial.buffer 0 (all_fields (lines_in l.s l.i)) l.buffer (l.i * 40)
