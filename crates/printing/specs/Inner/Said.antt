-- What a call leaves that makes a text at the front of a lent slice.
use Rattle.std.specs.Prelude.{ℕ, ◌≤◌, List, length}
use Rattle.ground.specs.Inner.Put.{Wrote}

-- b is l with the text xs laid over its front; the text ends at e, within b
pub record Said (l xs b : List ℕ) (e : ℕ) : Type 0 where
  pub wrote : Wrote l 0 xs b e
  pub within : e ≤ length b
