-- Whether a name was given before.
use Rattle.std.specs.Prelude.{ℕ, Bool, cond, eqb}
use Rattle.sections.specs.Search.{some}

-- whether one of the records 0 .. n - 1 gives the name a
unfoldable pub seen : (ℕ → ℕ) → ℕ → ℕ → Bool
seen name n a = some (λ i. eqb (name i) a) n

-- what a record adds to the number of names: nothing where its name is known, else 1
abbrev pub newly : Bool → ℕ
newly known = cond known 0 1
