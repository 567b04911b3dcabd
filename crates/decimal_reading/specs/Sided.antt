-- A number with a sign where it stands in a text, and the byte behind it. 02, Req 05: "no spare leading zeros, no -0".
use Rattle.std.specs.Prelude.{ℕ, ◌≤◌, Bool, List, [], ◌∷◌, ◌++◌}
use Rattle.numbers.specs.Sign.{signed}
use Rattle.decimal.specs.Decimal.{signed_text}
use Rattle.decimal.specs.Standing.{Spelled}

-- the spelling of a number of 0 or above or, of a charge, of 0 or below, by its size, and the byte behind it
abbrev pub sided_text : Bool → ℕ → ℕ → ℕ → List ℕ
sided_text charge d end x = signed_text (signed charge x) d ++ (end ∷ [])

-- such a number, of a size at most limit, is spelled in s from k on
abbrev pub SidedThen : Bool → ℕ → ℕ → ℕ → List ℕ → ℕ → ℕ → ℕ → Type 0
SidedThen charge d limit end s k = Spelled (λ x. x ≤ limit) (sided_text charge d end) s k
