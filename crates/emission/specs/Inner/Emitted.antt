-- Lines written one after the other from a place of the buffer on.
use Rattle.std.specs.Prelude.{ℕ, ◌+◌, ◌*◌, ◌≤◌, ◌≡◌, List, length}
use Rattle.ground.specs.Put.{put}
use Rattle.statement.specs.Statement.{lines_bytes}
use Rattle.statement.specs.declared.Line.{Line}

-- from place k of buffer l on, the lines ls leave buffer b and end at place e
pub record Emitted (l : List ℕ) (k : ℕ) (ls : List Line) (b : List ℕ) (e : ℕ) : Type 0 where
  pub bytes : b ≡ put l k (lines_bytes ls)
  pub next : e ≡ k + length ls * 24

-- there is room for n lines from place k on
pub record LineRoom (l : List ℕ) (k n : ℕ) : Type 0 where
  pub fits : k + n * 24 ≤ length l
