-- The number that the records of a section are sorted by first.
use Rattle.std.specs.Prelude.{ℕ, ◌*◌, List}
use Rattle.ground.specs.Bytes.{u32_at}

-- the leading number of record i, where a record has this size: a section's records are sorted by it first
abbrev pub lead_at : List ℕ → ℕ → ℕ → ℕ
lead_at s size i = u32_at s (i * size)
