-- The lines of a statement's bytes are laid one behind the other. Assumes nothing.
use mathlib.Core.Path.{◌≡◌, refl}
use mathlib.Core.List.{List, [], ◌∷◌, ◌++◌}
use Rattle.statement.specs.Statement.{line_bytes, lines_bytes}
use Rattle.statement.specs.declared.Line.{Line}
use Rattle.statement.proofs.Lines.{lines_append, lines_one}
use Rattle.parsing.proofs.Laid.{Pieces}

lines_more : (ls : List Line) (x : Line) → lines_bytes (ls ++ (x ∷ [])) ≡ lines_bytes ls ++ line_bytes x
lines_more ls x = rw (lines_append ls (x ∷ []), lines_one x)

pub line_pieces_lem : Pieces line_bytes lines_bytes
unfolding lines_bytes
line_pieces_lem = record { none = refl; more = lines_more }
