-- Marks, one bit for each row, 64 rows to a word. The last bit of a word is its first row's.
use Rattle.std.specs.Prelude.{ℕ, zero, suc, ◌+◌, ◌/◌, ◌%◌, ◌<◌, ◌≡◌, List, Bool, eqb, get_or}

-- what is left of a word when j bits are taken off its end
unfoldable pub after : ℕ → ℕ → ℕ
after w zero = w
after w (suc j) = after w j / 2

-- whether the last bit of a word is 1
abbrev pub odd : ℕ → Bool
odd w = eqb (w % 2) 1

-- what is left of its word when row u is next
unfoldable pub left_for : List ℕ → ℕ → ℕ
left_for marks u = after (get_or marks (u / 64) 0) (u % 64)

-- whether row u is marked
abbrev pub marked : List ℕ → ℕ → Bool
marked marks u = odd (left_for marks u)

-- w has the marks of those of the first m rows that stand from row k on, 64 at most
pub record Word (t : ℕ → Bool) (m k w : ℕ) : Type 0 where
  pub bit : (j : ℕ) → j < 64 → k + j < m → odd (after w j) ≡ t (k + j)
