-- Names, each once.
use Rattle.std.specs.Prelude.{ℕ, zero, suc, ◌+◌, List, [], ◌∷◌, Bool, false, cond, ◌||◌, eqb}

-- whether a stands in a list
unfoldable pub has : ℕ → List ℕ → Bool
has a [] = false
has a (x ∷ l) = eqb x a || has a l

-- the list with a in front, unless a stands in it
unfoldable pub join_new : ℕ → List ℕ → List ℕ
join_new a l = cond (has a l) l (a ∷ l)

-- the list with each name that records 0 .. n - 1 give, once
unfoldable pub named : (ℕ → ℕ) → ℕ → List ℕ → List ℕ
named name zero l = l
named name (suc n) l = join_new (name n) (named name n l)

-- how often a stands in a list
unfoldable pub times : ℕ → List ℕ → ℕ
times a [] = 0
times a (x ∷ l) = cond (eqb x a) 1 0 + times a l
