-- A row of tests, each said by itself.
use Rattle.std.specs.Prelude.{◌≡◌, List, [], ◌∷◌, Bool, true}

-- the same said of each test by itself
abbrev pub Every : List Bool → Type 0
Every [] = Unit
Every (b ∷ bs) = (b ≡ true) × Every bs
