-- Texts put together from words and numbers.
use Rattle.std.specs.Prelude.{ℕ, List, [], ◌∷◌, ◌++◌}
use Rattle.decimal.specs.Decimal.{decimal_of}

-- pieces of text, one behind the other
abbrev pub in_row : List (List ℕ) → List ℕ
in_row [] = []
in_row (x ∷ []) = x
in_row (x ∷ y ∷ rest) = x ++ in_row (y ∷ rest)

-- a word, and the number that it leads to
abbrev pub named_text : List ℕ → ℕ → List ℕ
named_text word x = word ++ decimal_of x
