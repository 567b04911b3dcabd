-- How long the numbers of a line are, and of lines, one behind the other. Assumes nothing.
use mathlib.Core.Path.{◌≡◌, refl}
use mathlib.Core.List.{List, [], ◌∷◌, ◌++◌, append_assoc, append-nil}
use lib.ListN.{length}
use Rattle.ground.specs.Le.{le64, int64}
use Rattle.statement.specs.declared.Line.{Line}
use Rattle.parsing.proofs.Laid.{Pieces}
use Rattle.unpacking.specs.Unpacking.{fields_bytes, all_fields}

pub fields_length : (x : Line) → length (fields_bytes x) ≡ 40
unfolding fields_bytes le64 int64
fields_length x = refl

fields_more : (ls : List Line) (x : Line) → all_fields (ls ++ (x ∷ [])) ≡ all_fields ls ++ fields_bytes x
unfolding all_fields
fields_more [] x = append-nil (fields_bytes x)
fields_more (l ∷ ls) x = rw (fields_more ls x, append_assoc)

pub fields_pieces : Pieces fields_bytes all_fields
unfolding all_fields
fields_pieces = record { none = refl; more = fields_more }
