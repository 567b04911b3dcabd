-- The element of a number in a list, numbered from 0.
use Rattle.std.specs.Prelude.{ℕ, zero, suc, List, [], ◌∷◌}

-- an element; or a number past the end, by what it has beyond the list's length
pub data Nth (A : Type 0) : Type 0 where
  found : A → Nth A
  past : ℕ → Nth A

unfoldable pub nth : {A : Type 0} → List A → ℕ → Nth A
nth [] i = past i
nth (x ∷ xs) zero = found x
nth (x ∷ xs) (suc i) = nth xs i
