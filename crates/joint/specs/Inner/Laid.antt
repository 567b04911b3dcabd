-- What a count of accounts rests on.
use Rattle.std.specs.Prelude.{ℕ, ◌+◌, ◌*◌, ◌≤◌, List, length}
use Rattle.sharing.specs.Inner.Shares.{Sorted}
use Rattle.joint.specs.Names.{energies_of}
use Rattle.joint.specs.declared.NamingRows.{NamingRows}

-- the rows that name a book's accounts lie in its bytes, no more than a book may have, and its energy rows are in order
pub record NamesLaid (bytes : List ℕ) (p : NamingRows) : Type 0 where
  pub energies : p.energies + p.n * 24 ≤ length bytes
  pub units : p.units + p.m * 20 ≤ length bytes
  pub few : p.m ≤ 600
  pub sorted : Sorted (energies_of bytes p) p.n
