-- Numbers that rise are each at one place only, so an id tells its record. Assumes nothing.
use Prim.Native.Nat.{ℕ, ◌≤◌, ◌<◌}
use mathlib.Core.Path.{◌≡◌, sym}
use mathlib.Core.Logic.{⊎_elim}
use native.Mathlib.Omega.{arith}
use native.Mathlib.Nat.{eq-or-lt_of_le}
use Rattle.sections.specs.Inner.Order.{Rises}
use Rattle.sections.proofs.Search.{lt_or_ge}

pub rises_once : (f : ℕ → ℕ) (n : ℕ) → Rises f n → (i j : ℕ) → i < n → j < n → f i ≡ f j → i ≡ j
rises_once f n r i j a b e =
    ⊎_elim
    (λ (l : i < j). absurd (apart (f i) (f j) (r.rise i j l b) e))
    (λ (l : j ≤ i). ⊎_elim (λ (q : j ≡ i). sym q) (λ (k : j < i). absurd (apart (f j) (f i) (r.rise j i k a) (sym e))) (eq-or-lt_of_le l))
    (lt_or_ge i j)
  where
    apart : (x y : ℕ) → x < y → x ≡ y → ⊥
    apart x y l q = omega arith
