-- Room for what is written, piece behind piece. Assumes nothing.
use Prim.Native.Nat.{ℕ, ◌+◌, ◌≤◌}
use mathlib.Core.List.{List, [], ◌∷◌}
use native.Mathlib.Omega.{arith}
use lib.ListN.{length, length-append}
use Rattle.ground.specs.Inner.Put.{Wrote}
use Rattle.ground.proofs.Put.{wrote_length}
use Rattle.words.specs.Words.{in_row}

-- there is room for pieces from place k of l on
pub record Space (l : List ℕ) (k : ℕ) (pieces : List (List ℕ)) : Type 0 where
  pub fits : k + length (in_row pieces) ≤ length l

pub space : (pieces : List (List ℕ)) (l : List ℕ) (k : ℕ) → k + length (in_row pieces) ≤ length l → Space l k pieces
space pieces l k h = record { fits = h }

-- at the front
pub space_front : (pieces : List (List ℕ)) (l : List ℕ) → length (in_row pieces) ≤ length l → Space l 0 pieces
space_front pieces l h = record { fits = omega arith }

module _ {l : List ℕ} {k : ℕ} {x : List ℕ} where
  pub space_first : {ps : List (List ℕ)} → Space l k (x ∷ ps) → k + length x ≤ length l
  space_first {ps = []} s = s.fits
  space_first {ps = y ∷ ps} s = omega (arith, rw length-append at s.fits)

  pub space_rest : {y : List ℕ} {ps : List (List ℕ)} {a : List ℕ} {m : ℕ} → Space l k (x ∷ y ∷ ps) → Wrote l k x a m → Space a m (y ∷ ps)
  space_rest s w = record { fits = omega (arith, rw length-append at s.fits, wrote_length w) }
