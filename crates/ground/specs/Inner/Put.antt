-- What a writer leaves.
use Rattle.std.specs.Prelude.{ℕ, ◌+◌, ◌≡◌, List, length}
use Rattle.ground.specs.Put.{put}

-- what a writer leaves: b is l with xs laid over it from k, and e is where they end
pub record Wrote (l : List ℕ) (k : ℕ) (xs : List ℕ) (b : List ℕ) (e : ℕ) : Type 0 where
  pub bytes : b ≡ put l k xs
  pub next : e ≡ k + length xs
