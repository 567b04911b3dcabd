-- A field where it stands in a text, and what its readers ask.
use Rattle.std.specs.Prelude.{ℕ, ◌≤◌, ◌≡◌, Bool, true, false, List, [], ◌∷◌, ◌++◌, Some}
use Rattle.decimal.specs.Standing.{Stands, Spelled}
use Rattle.decimal_reading.specs.Sided.{sided_text}
use Rattle.columns.specs.Columns.{cell_text, InRange}
use Rattle.columns.specs.Inner.Cells.{word_in}
use Rattle.columns.specs.declared.Form.{Form}
use Rattle.columns.specs.declared.Words.{Words}

-- a number of a column, by its size, and the byte behind it
abbrev pub number_to : Form → ℕ → ℕ → List ℕ
number_to f end x = sided_text f.charge f.decimals end x

abbrev pub NumberTo : Form → ℕ → List ℕ → ℕ → ℕ → ℕ → Type 0
NumberTo f end s k = Spelled (λ x. (f.least ≤ x) × (x ≤ f.most)) (number_to f end) s k

-- a word by its number, up to the last, and the byte behind it
abbrev pub word_to : Words → ℕ → ℕ → List ℕ
word_to words end x = word_in (Some words) x ++ (end ∷ [])

abbrev pub WordTo : Words → ℕ → ℕ → List ℕ → ℕ → ℕ → ℕ → Type 0
WordTo words last end s k = Spelled (λ x. x ≤ last) (word_to words end) s k

-- whether the letters of a word and then the byte stand in s from k
pub record LettersTo (word : List ℕ) (end : ℕ) (s : List ℕ) (k : ℕ) (t : Bool) : Type 0 where
  pub yes : t ≡ true → Stands (word ++ (end ∷ [])) s k
  pub no : t ≡ false → Stands (word ++ (end ∷ [])) s k → ⊥

-- x, in its range, is spelled in s from k to e as a field of the column
abbrev pub CellAt : List ℕ → ℕ → ℕ → ℕ → ℕ → Type 0
CellAt s k column x e = Spelled (InRange column) (cell_text column) s k x e
