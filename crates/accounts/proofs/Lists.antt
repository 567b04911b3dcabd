-- What a pass over the rows by index says of the rows as a list: sums, searches and joined lists. Assumes nothing.
use Prim.Native.Nat.{ℕ, zero, suc, ◌+◌}
use mathlib.Core.Path.{◌≡◌, refl, sym}
use mathlib.Core.Bool.{Bool, true, false, cond, not, ◌&&◌, ◌||◌}
use mathlib.Core.List.{List, [], ◌∷◌, ◌++◌, append_assoc, append-nil}
use native.Mathlib.Omega.{arith}
use native.Mathlib.Nat.{add-zero, zero-add}
use Rattle.sections.specs.Total.{total}
use Rattle.sections.specs.Search.{some}
use Rattle.accounts.specs.Rows.{rows_of, keep, sum_of, none, joined, concat_map}

-- ---- lists one behind the other

module _ {A : Type 0} where
  pub keep_append : (p : A → Bool) (xs ys : List A) → keep p (xs ++ ys) ≡ keep p xs ++ keep p ys
  unfolding keep
  keep_append p [] ys = refl
  keep_append p (x ∷ xs) ys = rw (keep_append p xs ys) (by (p x))
    where
      by : (t : Bool) → cond t (x ∷ (keep p xs ++ keep p ys)) (keep p xs ++ keep p ys) ≡ cond t (x ∷ keep p xs) (keep p xs) ++ keep p ys
      by true = refl
      by false = refl

  pub sum_append : (f : A → ℕ) (xs ys : List A) → sum_of f (xs ++ ys) ≡ sum_of f xs + sum_of f ys
  unfolding sum_of
  sum_append f [] ys = sym (zero-add (sum_of f ys))
  sum_append f (x ∷ xs) ys = rw (sum_append f xs ys) (omega arith)

  none_append : (xs ys : List A) → none (xs ++ ys) ≡ none xs && none ys
  none_append [] ys = refl
  none_append (x ∷ xs) ys = refl

pub concat_append : {A B : Type 0} (f : A → List B) (xs ys : List A) → concat_map f (xs ++ ys) ≡ concat_map f xs ++ concat_map f ys
unfolding concat_map
concat_append f [] ys = refl
concat_append f (x ∷ xs) ys = rw (concat_append f xs ys, append_assoc)

-- ---- from index to list

module _ {A : Type 0} (row : ℕ → A) (p : A → Bool) where
  -- what the rows that pass count for, where t i is what row i adds
  pub total_rows : (f : A → ℕ) (t : ℕ → ℕ) → ((i : ℕ) → t i ≡ cond (p (row i)) (f (row i)) 0) → (n : ℕ) → total t n ≡ sum_of f (keep p (rows_of row n))
  unfolding total rows_of keep sum_of
  total_rows f t h zero = refl
  total_rows f t h (suc n) =
      rw (keep_append p (rows_of row n) (row n ∷ []), sum_append f (keep p (rows_of row n)) (keep p (row n ∷ [])), ← total_rows f t h n, h n)
      (by (p (row n)))
    where
      by : (b : Bool) → total t n + cond b (f (row n)) 0 ≡ total t n + sum_of f (cond b (row n ∷ keep p []) (keep p []))
      by true = rw add-zero
      by false = refl

  -- whether a row passes
  pub some_rows : (n : ℕ) → some (λ k. p (row k)) n ≡ not (none (keep p (rows_of row n)))
  unfolding some rows_of keep
  some_rows zero = refl
  some_rows (suc n) =
      rw (keep_append p (rows_of row n) (row n ∷ []), none_append (keep p (rows_of row n)) (keep p (row n ∷ [])), some_rows n)
      (by (none (keep p (rows_of row n))) (p (row n)))
    where
      by : (a b : Bool) → (not a || b) ≡ not (a && none (cond b (row n ∷ keep p []) (keep p [])))
      by true true = refl
      by true false = refl
      by false b = refl

-- ---- joined lists

module _ {A B : Type 0} (row : ℕ → A) (f : A → List B) where
  pub joined_rows : (n : ℕ) → joined (λ i. f (row i)) n ≡ concat_map f (rows_of row n)
  unfolding joined rows_of concat_map
  joined_rows zero = refl
  joined_rows (suc n) =
      rw (concat_append f (rows_of row n) (row n ∷ []), append-nil, joined_rows n)

  -- only the rows that pass give their lists
  pub joined_keep : (p : A → Bool) (n : ℕ) → joined (λ i. cond (p (row i)) (f (row i)) []) n ≡ concat_map f (keep p (rows_of row n))
  unfolding joined rows_of keep concat_map
  joined_keep p zero = refl
  joined_keep p (suc n) =
      rw (keep_append p (rows_of row n) (row n ∷ []), concat_append f (keep p (rows_of row n)) (keep p (row n ∷ [])), ← joined_keep p n)
      (by (p (row n)))
    where
      by : (b : Bool) → joined (λ i. cond (p (row i)) (f (row i)) []) n ++ cond b (f (row n)) [] ≡ joined (λ i. cond (p (row i)) (f (row i)) []) n ++ concat_map f (cond b (row n ∷ keep p []) (keep p []))
      by true = rw append-nil
      by false = refl
