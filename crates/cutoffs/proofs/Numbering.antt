-- The stage of a number: in a list behind another, among a regulation pool's, and region by region among a contract's. Assumes nothing.
use Prim.Native.Nat.{ℕ, zero, suc, ◌+◌, ◌-◌, ◌≤◌, ◌<◌}
use mathlib.Core.Path.{◌≡◌, refl, sym, ap, ◌∙◌}
use mathlib.Core.Bool.{Bool, true, false, cond}
use mathlib.Core.List.{[], List, ◌∷◌, ◌++◌}
use mathlib.Core.Logic.{⊎_elim}
use native.Mathlib.Omega.{arith}
use native.Mathlib.Nat.{eq-or-lt_of_le, not-suc-le-zero}
use native.Mathlib.Numerals.{add-one}
use borrow.Author.Tests.{ne_eqb, eqb-false}
use lib.Dec.{eqb}
use lib.ListN.{length, length-append}
use Rattle.rules.specs.Rules.{factor_of}
use Rattle.records.specs.declared.rows.Contract.{Contract}
use Rattle.totals.specs.Inner.Energies.{Energies}
use Rattle.accounts.specs.Rows.{joined}
use Rattle.cutoffs.specs.Cutoffs.{whole_stage, half_stage, stage_at}
use Rattle.cutoffs.specs.Inner.Shapes.{ace_shape, asoe_shape, region_shapes, contract_shapes}
use Rattle.cutoffs.specs.declared.Cut.{Cut}
use Rattle.std.specs.Prelude.{Ok}
use Rattle.sections.specs.Refusal.{refused}

-- ---- in two lists, one behind the other

-- a number in the first list
at_front : (xs ys : List Cut) (i : ℕ) → i < length xs → stage_at (xs ++ ys) i ≡ stage_at xs i
unfolding stage_at
at_front [] ys i l = absurd (not-suc-le-zero l)
at_front (x ∷ xs) ys zero l = refl
at_front (x ∷ xs) ys (suc i) l = at_front xs ys i (omega arith)

-- a number behind it
at_back : (xs ys : List Cut) (i k : ℕ) → i ≡ length xs + k → stage_at (xs ++ ys) i ≡ stage_at ys k
unfolding stage_at
at_back [] ys i k e = ap (stage_at ys) (omega arith)
at_back (x ∷ xs) ys zero k e = absurd (omega arith)
at_back (x ∷ xs) ys (suc i) k e = at_back xs ys i k (omega arith)

-- a number past the end
pub at_past : (xs : List Cut) (i : ℕ) → length xs ≤ i → stage_at xs i ≡ refused 15 0
unfolding stage_at
at_past [] i l = refl
at_past (x ∷ xs) zero l = absurd (omega arith)
at_past (x ∷ xs) (suc i) l = at_past xs i (omega arith)

-- ---- a regulation pool's: one before the others where a test says so

module _ (t : Bool) (p : Cut) (rest : List Cut) {first : ℕ} (e : first ≡ cond t 1 0) (index : ℕ) where
  -- that one
  pub first_at : index < first → Ok p ≡ stage_at (cond t (p ∷ []) [] ++ rest) index
  unfolding stage_at
  first_at l = by t e index l
    where
      by : (t : Bool) → first ≡ cond t 1 0 → (index : ℕ) → index < first → Ok p ≡ stage_at (cond t (p ∷ []) [] ++ rest) index
      by true e zero l = refl
      by true e (suc index) l = absurd (omega arith)
      by false e index l = absurd (omega arith)

  -- the others
  pub behind_at : (m : ℕ) → first ≤ index → index - first ≡ m → stage_at rest m ≡ stage_at (cond t (p ∷ []) [] ++ rest) index
  behind_at m l d = by t e
    where
      by : (t : Bool) → first ≡ cond t 1 0 → stage_at rest m ≡ stage_at (cond t (p ∷ []) [] ++ rest) index
      by true e = sym (at_back (p ∷ []) rest index m (omega arith))
      by false e = sym (at_back [] rest index m (omega arith))

-- the three behind it end there
pub third_past : (u r s : Cut) (m : ℕ) → (m ≡ 0 → ⊥) → (m ≡ 1 → ⊥) → (m ≡ 2 → ⊥) → refused 15 0 ≡ stage_at (u ∷ r ∷ s ∷ []) m
third_past u r s m a b c = sym (at_past (u ∷ r ∷ s ∷ []) m (omega (arith, a, b, c)))

-- ---- a contract's: four in each region that it benefits

module _ (E : Energies) (k : Contract) where
  -- the four
  pub region_at : (g left : ℕ) → (factor_of k.factors g ≡ 0 → ⊥) → stage_at (whole_stage k g ∷ half_stage k g ∷ ace_shape E k g ∷ asoe_shape E k g ∷ []) left ≡ stage_at (region_shapes E k g) left
  unfolding region_shapes
  region_at g left d = rw (ne_eqb (factor_of k.factors g) 0 d)

  -- there are four, or none
  region_long : (g : ℕ) → length (region_shapes E k g) ≡ cond (eqb (factor_of k.factors g) 0) 0 4
  unfolding region_shapes
  region_long g = by (eqb (factor_of k.factors g) 0)
    where
      by : (t : Bool) → length (cond t [] (whole_stage k g ∷ half_stage k g ∷ ace_shape E k g ∷ asoe_shape E k g ∷ [])) ≡ cond t 0 4
      by true = refl
      by false = refl

  -- what stands in the first regions stands in more
  grows : (n m : ℕ) → n ≤ m → length (joined (region_shapes E k) n) ≤ length (joined (region_shapes E k) m)
  unfolding joined
  grows n zero l = let e : n ≡ zero = omega arith in rw e (omega arith)
  grows n (suc m) l =
      ⊎_elim
      (λ (e : n ≡ suc m). rw e (omega arith))
      (λ (i : n < suc m). omega (arith, grows n m (omega arith), length-append (joined (region_shapes E k) m) (region_shapes E k m)))
      (eq-or-lt_of_le l)

  -- and by the same number
  prefix : (n m i : ℕ) → n ≤ m → i < length (joined (region_shapes E k) n) → stage_at (joined (region_shapes E k) m) i ≡ stage_at (joined (region_shapes E k) n) i
  unfolding joined
  prefix n zero i l h = let e : n ≡ zero = omega arith in rw e
  prefix n (suc m) i l h =
      ⊎_elim
      (λ (e : n ≡ suc m). rw e)
      (λ (j : n < suc m). at_front (joined (region_shapes E k) m) (region_shapes E k m) i (omega (arith, grows n m (omega arith))) ∙ prefix n m i (omega arith) h)
      (eq-or-lt_of_le l)

  -- the stages of the regions before g come first, and left is the number behind them
  pub record Reached (index g left : ℕ) : Type 0 where
    pub within : g ≤ 5
    pub before : index ≡ length (joined (region_shapes E k) g) + left

  -- before the first region
  pub reach_start : (index : ℕ) → Reached index 0 index
  unfolding joined
  reach_start index = record { within = omega arith; before = omega arith }

  -- a region more
  longer : (g : ℕ) → length (joined (region_shapes E k) (suc g)) ≡ length (joined (region_shapes E k) g) + cond (eqb (factor_of k.factors g) 0) 0 4
  unfolding joined
  longer g = length-append (joined (region_shapes E k) g) (region_shapes E k g) ∙ ap (λ (n : ℕ). length (joined (region_shapes E k) g) + n) (region_long g)

  module _ {index g left stages : ℕ} (h : Reached index g left) (l : g < 5) (e : stages ≡ cond (eqb (factor_of k.factors g) 0) 0 4) where
    -- its stages are behind
    pub reach_more : stages ≤ left → Reached index (g + 1) (left - stages)
    reach_more m = record { within = omega arith; before = rw (add-one, longer g) (omega (arith, h.before)) }

    -- it is one of region g, which benefits
    pub reach_benefits : left < stages → (factor_of k.factors g ≡ 0 → ⊥) × (left < 4)
    reach_benefits m = by (eqb (factor_of k.factors g) 0) refl e
      where
        by : (t : Bool) → eqb (factor_of k.factors g) 0 ≡ t → stages ≡ cond t 0 4 → (factor_of k.factors g ≡ 0 → ⊥) × (left < 4)
        by true q f = absurd (omega arith)
        by false q f = (eqb-false (factor_of k.factors g) 0 q, omega arith)

    -- and stands there among all
    pub reach_found : left < stages → {x : Cut} → Ok x ≡ stage_at (region_shapes E k g) left → Ok x ≡ stage_at (contract_shapes E k) index
    unfolding contract_shapes joined
    reach_found m {x} q =
        q
        ∙ sym (at_back (joined (region_shapes E k) g) (region_shapes E k g) index left h.before)
        ∙ sym (prefix (suc g) 5 index (omega arith) (omega (arith, h.before, longer g)))

  -- past the last region
  pub reach_end : {index g left : ℕ} → Reached index g left → 5 ≤ g → refused 15 0 ≡ stage_at (contract_shapes E k) index
  unfolding contract_shapes
  reach_end {index} {g} {left} h l =
      let e : g ≡ 5 = omega (arith, h.within) in
      sym (at_past (joined (region_shapes E k) 5) index (rw e at (at_least h.before)))
    where
      at_least : index ≡ length (joined (region_shapes E k) g) + left → length (joined (region_shapes E k) g) ≤ index
      at_least b = omega arith
