-- A mode that a `let .. else` finds not to be factored is one of the other three. Assumes nothing.
use Prim.Native.Nat.{ℕ}
use mathlib.Core.Path.{◌≡◌}
use mathlib.Core.List.{[], ◌∷◌}
use mathlib.Core.Logic.{⊎_elim}
use native.Mathlib.Omega.{arith}
use types.Run.{OneOf}
use denote.Enum.Declared.{tag_of}
use Rattle.market.specs.declared.Mode.{Mode}
use Rattle.market.specs.declared.Mode.TheVariants.{Contingency, Factored, Default, Unknown}
use Rattle.market.specs.contracts.Mode.{the_type}

factored_tag : OneOf (0 ∷ 2 ∷ 3 ∷ []) 1 → ⊥
factored_tag k = ⊎_elim (λ (e : ◌≡◌ {A = ℕ} 1 0). omega arith) (λ h. ⊎_elim (λ (e : ◌≡◌ {A = ℕ} 1 2). omega arith) (λ (e : ◌≡◌ {A = ℕ} 1 3). omega arith) h) k

pub unfactored : (P : Mode → Type 0) → P Contingency → P Default → P Unknown → (m : Mode) → OneOf (0 ∷ 2 ∷ 3 ∷ []) (tag_of the_type m) → P m
unfactored P c d u Contingency k = c
unfactored P c d u (Factored p r s) k = absurd (factored_tag k)
unfactored P c d u Default k = d
unfactored P c d u Unknown k = u
