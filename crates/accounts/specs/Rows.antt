-- Rows as lists: all of a section's, those that pass a test, and sums over them.
use Rattle.std.specs.Prelude.{ℕ, zero, suc, ◌+◌, Bool, true, false, cond, List, [], ◌∷◌, ◌++◌, ℤ, pos, ◌+ℤ◌}

module _ {A : Type 0} where
  -- the rows 0 .. n - 1
  unfoldable pub rows_of : (ℕ → A) → ℕ → List A
  rows_of row zero = []
  rows_of row (suc n) = rows_of row n ++ (row n ∷ [])

  -- those that pass a test, in their order
  unfoldable pub keep : (A → Bool) → List A → List A
  keep p [] = []
  keep p (x ∷ xs) = cond (p x) (x ∷ keep p xs) (keep p xs)

  -- a number summed over rows
  unfoldable pub sum_of : (A → ℕ) → List A → ℕ
  sum_of f [] = 0
  sum_of f (x ∷ xs) = f x + sum_of f xs

  -- a number with a sign, summed over them
  unfoldable pub sum_z : (A → ℤ) → List A → ℤ
  sum_z f [] = pos 0
  sum_z f (x ∷ xs) = f x +ℤ sum_z f xs

  -- whether there is no row
  abbrev pub none : List A → Bool
  none [] = true
  none (x ∷ xs) = false

  -- f 0 ++ f 1 ++ .. ++ f (n - 1)
  unfoldable pub joined : (ℕ → List A) → ℕ → List A
  joined f zero = []
  joined f (suc n) = joined f n ++ f n

-- what each row gives, one after the other
unfoldable pub concat_map : {A : Type 0} {B : Type 0} → (A → List B) → List A → List B
concat_map f [] = []
concat_map f (x ∷ xs) = f x ++ concat_map f xs
