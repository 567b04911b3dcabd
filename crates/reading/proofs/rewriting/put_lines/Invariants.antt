-- `reading::rewriting::put_lines` meets its contract. The invariant: the first i lines stand behind the header. Assumes nothing.
use Prim.Native.Nat.{◌+◌, ◌*◌}
use Rattle.ground.specs.Inner.Put.{Wrote}
use Rattle.statement.specs.Statement.{lines_bytes}
use Rattle.parsing.specs.Parsing.{lines_in}
use Rattle.reading.proofs.rewriting.put_lines.Given as goal

abbrev pub invariant-loop-i : goal.invariant-loop-i
invariant-loop-i l = Wrote l.initial.buffer 24 (lines_bytes (lines_in l.s l.i)) l.buffer (24 + l.i * 24)
