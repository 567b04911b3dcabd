-- The energy section of one of two books. Only contracts between our own functions speak of this.
use Rattle.std.specs.Prelude.{ℕ, ◌≡◌, List}
use Rattle.ground.specs.Bytes.{part_from}
use Rattle.locking.specs.Locking.{pick}
use Rattle.locking.specs.declared.Source.{Source}

-- r are the bytes from the region entries on, of book b or of the locked one, l
pub record Handed (s : Source) (b l r : List ℕ) : Type 0 where
  pub bytes : r ≡ part_from 24 (pick s b l)
