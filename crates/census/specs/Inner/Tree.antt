-- A tree of records by their names, in one list of links. A link is the number of a record and 1 more, or 0 where it is empty. The first 256
-- slots are the roots; slots 256 + 2 p and 257 + 2 p are the children of record p. The bits of a name's key lead from a root down.
use Rattle.std.specs.Prelude.{ℕ, zero, suc, ◌+◌, ◌*◌, ◌-◌, ◌/◌, ◌%◌, ◌≤◌, ◌<◌, ◌≡◌, List, length, get_or}

-- the key of a name, 32 bits: the product with an odd number spreads names that lie close, and no two below 2^32 have the same
abbrev pub key_of : ℕ → ℕ
key_of a = a * 2_654_435_761 % 4_294_967_296

-- the root at which a key starts: its first 8 bits
abbrev pub root_of : ℕ → ℕ
root_of key = key / 16_777_216

-- the bits of a name's key that are left after the root and d children
unfoldable pub bits_at : ℕ → ℕ → ℕ
bits_at a zero = key_of a * 256 % 4_294_967_296
bits_at a (suc d) = bits_at a d * 2 % 4_294_967_296

-- the child to which bits lead from the record of a link: the first of them says which
abbrev pub child_of : ℕ → ℕ → ℕ
child_of link bits = 254 + 2 * link + bits / 2_147_483_648

-- the slot to which a name leads after d children
unfoldable pub slot_at : List ℕ → ℕ → ℕ → ℕ
slot_at links a zero = root_of (key_of a)
slot_at links a (suc d) = child_of (get_or links (slot_at links a d) 0) (bits_at a d)

-- the link there
abbrev pub link_at : List ℕ → ℕ → ℕ → ℕ
link_at links a d = get_or links (slot_at links a d) 0

-- a link to a record of another name
pub record Another (name : ℕ → ℕ) (a link : ℕ) : Type 0 where
  pub filled : 0 < link
  pub other : name (link - 1) ≡ a → ⊥

-- s is the place of the name a: the first slot on its way that is empty or has a record of that name
pub record Place (name : ℕ → ℕ) (links : List ℕ) (a s : ℕ) : Type 0 where
  pub depth : ℕ
  pub here : s ≡ slot_at links a depth
  pub passed : (e : ℕ) → e < depth → Another name a (link_at links a e)
  pub own : 0 < get_or links s 0 → name (get_or links s 0 - 1) ≡ a

-- the way of the name a comes to a record of that name, over no empty link
pub record Found (name : ℕ → ℕ) (links : List ℕ) (a : ℕ) : Type 0 where
  pub depth : ℕ
  pub filled : (e : ℕ) → e ≤ depth → 0 < link_at links a e
  pub own : name (link_at links a depth - 1) ≡ a

-- the tree of the records 0 .. u - 1: each name is found, and a link stands before the children of its record
pub record Grown (name : ℕ → ℕ) (u : ℕ) (links : List ℕ) : Type 0 where
  pub slots : length links ≡ 1456
  pub rows : (s : ℕ) → get_or links s 0 ≤ u
  pub rises : (s : ℕ) → 0 < get_or links s 0 → s < 254 + 2 * get_or links s 0
  pub found : (j : ℕ) → j < u → Found name links (name j)
