-- The regions of a mask, as a list. Contracts of functions that go from region to region speak of it; a sum over a constraint's regions asks
-- each region for its bit (`bit_set`), and the laws tie the two (`proofs/Walk`).
use Rattle.std.specs.Prelude.{ℕ, zero, suc, cond, List, [], ◌∷◌}
use Rattle.market.specs.Kinds.{bit_set}

-- of n regions from g on those whose bit is set, rising
unfoldable pub regions_from : ℕ → ℕ → ℕ → List ℕ
regions_from mask g zero = []
regions_from mask g (suc n) = cond (bit_set mask g) (g ∷ regions_from mask (suc g) n) (regions_from mask (suc g) n)

abbrev pub regions_in : ℕ → List ℕ
regions_in mask = regions_from mask 0 5
