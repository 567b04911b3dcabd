-- A statement's lines laid one behind the other, each as bytes of its own: what a loop that lays them line by line needs to know. one is what a line is laid
-- as, all what lines are. Assumes nothing.
use Prim.Native.Nat.{ℕ, zero, suc, ◌+◌, ◌*◌, ◌≤◌}
use mathlib.Core.Path.{◌≡◌, refl, ◌∙◌}
use mathlib.Core.List.{List, [], ◌∷◌, ◌++◌}
use native.Mathlib.Omega.{arith}
use native.Mathlib.Nat.{zero-mul, suc-mul}
use native.Mathlib.Numerals.{add-one}
use lib.ListN.{length, length-append}
use Rattle.ground.specs.Put.{put}
use Rattle.ground.specs.Inner.Put.{Wrote}
use Rattle.ground.proofs.Put.{wrote_none, wrote_more}
use Rattle.statement.specs.declared.Line.{Line}
use Rattle.parsing.specs.Parsing.{line_at, lines_in}

pub lines_count : (s : List ℕ) (n : ℕ) → length (lines_in s n) ≡ n
unfolding lines_in
lines_count s zero = refl
lines_count s (suc n) = length-append (lines_in s n) (line_at s n ∷ []) ∙ omega (arith, lines_count s n)

-- no line is laid as nothing, and a line more as its bytes behind the others'
pub record Pieces (one : Line → List ℕ) (all : List Line → List ℕ) : Type 0 where
  pub none : all [] ≡ []
  pub more : (ls : List Line) (x : Line) → all (ls ++ (x ∷ [])) ≡ all ls ++ one x

module _ {one : Line → List ℕ} {all : List Line → List ℕ} (p : Pieces one all) (s : List ℕ) where
  -- how long they are, where each has the same width
  pub laid_length : (width : ℕ) → ((x : Line) → length (one x) ≡ width) → (n : ℕ) → length (all (lines_in s n)) ≡ n * width
  unfolding lines_in
  laid_length width same zero = rw (p.none, zero-mul) refl
  laid_length width same (suc n) =
      rw (p.more (lines_in s n) (line_at s n), length-append, same (line_at s n), laid_length width same n, suc-mul) refl

  module _ (l : List ℕ) (k : ℕ) where
    pub laid_none : Wrote l k (all (lines_in s 0)) l k
    unfolding lines_in
    laid_none = rw p.none (wrote_none l k)

    module _ (i : ℕ) {a : List ℕ} {m : ℕ} (w : Wrote l k (all (lines_in s i)) a m) where
      -- line i as well
      pub laid_more : {b : List ℕ} (x : Line) (e : ℕ) → x ≡ line_at s i → b ≡ put a m (one x) → e ≡ m + length (one x) → Wrote l k (all (lines_in s (i + 1))) b e
      unfolding lines_in
      laid_more x e q f g = rw (add-one, p.more (lines_in s i) (line_at s i), ← q) (wrote_more w (record { bytes = f; next = g }))

      -- where no line is left
      pub laid_all : (n : ℕ) → i ≤ n → n ≤ i → Wrote l k (all (lines_in s n)) a m
      laid_all n h g = let e : i ≡ n = omega arith in rw (← e) w
