-- From region to region of a mask: the lowest set bit is that of the first region, and the mask without it has those behind. So the walk meets the
-- regions of the mask, each once, rising, and what is summed on the way is the sum over them. Assumes nothing.
use Prim.Native.Nat.{ℕ, zero, suc, ◌+◌, ◌*◌, ◌-◌, ◌≤◌, ◌<◌, ◌^◌}
use mathlib.Core.Path.{◌≡◌, refl, sym, ap, ap₂, ◌∙◌}
use mathlib.Core.Bool.{Bool, true, false, ◌&&◌, ◌||◌, cond}
use mathlib.Core.List.{List, [], ◌∷◌}
use native.Mathlib.Nat.{zero-lt-suc, le_trans, lt_of_le_of_lt}
use native.Mathlib.Omega.{arith}
use borrow.Author.Tests.{eqb-true, ne_eqb}
use lib.Bits.{bit_and, and_le_l}
use lib.Count.{ones, ones_in, count_trailing_zeros, trailing_le}
use lib.Dec.{eqb}
use lib.ListN.{length}
use Rattle.sections.specs.Search.{all}
use Rattle.sections.specs.Total.{total}
use Rattle.sections.proofs.Cases.{zero_one, no_yes}
use Rattle.sections.proofs.Search.{left, right, all_each}
use Rattle.sections.proofs.Total.{total_bound, total_five}
use Rattle.market.specs.Kinds.{bit_set}
use Rattle.market.specs.Inner.Masks.{regions_from, regions_in}
use Rattle.market.specs.declared.Step.{Step}

-- ---- a step: a mask is a byte, so that what holds of each is a test, computed at all 256

-- two lists of numbers are the same
abbrev same : List ℕ → List ℕ → Bool
same [] [] = true
same [] (y ∷ ys) = false
same (x ∷ xs) [] = false
same (x ∷ xs) (y ∷ ys) = eqb x y && same xs ys

same_lists : (xs ys : List ℕ) → same xs ys ≡ true → xs ≡ ys
same_lists [] [] e = refl
same_lists [] (y ∷ ys) e = absurd (no_yes refl e)
same_lists (x ∷ xs) [] e = absurd (no_yes refl e)
same_lists (x ∷ xs) (y ∷ ys) e = ap₂ (λ (z : ℕ) (zs : List ℕ). z ∷ zs) (eqb-true x y (left (eqb x y) (same xs ys) e)) (same_lists xs ys (right (eqb x y) (same xs ys) e))

-- the mask without its lowest set bit
abbrev pub behind : ℕ → ℕ
behind mask = bit_and mask (mask - 1)

-- the bits of the five regions are as many as the regions
pub ones_are_regions : (mask : ℕ) → mask < 256 → ones (bit_and mask 31) ≡ length (regions_in mask)
unfolding all ones ones_in regions_from
ones_are_regions mask l = eqb-true _ _ (all_each (λ m. eqb (ones (bit_and m 31)) (length (regions_in m))) 256 refl mask l)

-- a mask with a region: a test that all masks pass
with_region : (f : ℕ → Bool) → all (λ m. eqb (length (regions_in m)) 0 || f m) 256 ≡ true → (mask : ℕ) → mask < 256 → 0 < length (regions_in mask) → f mask ≡ true
with_region f t mask l p =
    rw (ne_eqb (length (regions_in mask)) 0 (λ (e : length (regions_in mask) ≡ 0). omega arith))
    at (all_each (λ m. eqb (length (regions_in m)) 0 || f m) 256 t mask l)

-- the first region, and those behind
pub first_and_behind : (mask : ℕ) → mask < 256 → 0 < length (regions_in mask) → regions_in mask ≡ count_trailing_zeros 8 mask ∷ regions_in (behind mask)
unfolding all count_trailing_zeros regions_from
first_and_behind mask l p = same_lists _ _ (with_region (λ m. same (regions_in m) (count_trailing_zeros 8 m ∷ regions_in (behind m))) refl mask l p)

-- the mask behind is that without the first region's bit
pub behind_is_less : (mask : ℕ) → mask < 256 → 0 < length (regions_in mask) → behind mask ≡ mask - 2 ^ count_trailing_zeros 8 mask
unfolding all count_trailing_zeros regions_from
behind_is_less mask l p = eqb-true _ _ (with_region (λ m. eqb (behind m) (m - 2 ^ count_trailing_zeros 8 m)) refl mask l p)

-- what the step asks: a bit's number is small, and a mask with a region is not 0
pub zeros_fit : (n : ℕ) → count_trailing_zeros 8 n < 2 ^ 8
zeros_fit n = omega (arith, trailing_le 8 n)

pub not_nothing : (mask : ℕ) → 0 < length (regions_in mask) → 0 < mask
unfolding regions_from
not_nothing zero p = p
not_nothing (suc m) p = zero-lt-suc m

-- ---- the walk

-- what is met in n steps from a mask on
unfoldable pub met : ℕ → ℕ → List ℕ
met zero mask = []
met (suc n) mask = count_trailing_zeros 8 mask ∷ met n (behind mask)

empty : (l : List ℕ) → 0 ≡ length l → [] ≡ l
empty [] e = refl
empty (x ∷ xs) e = absurd (no e)
  where
    no : 0 ≡ length (x ∷ xs) → ⊥
    no e = omega arith

met_all : (n mask : ℕ) → mask < 256 → n ≡ length (regions_in mask) → met n mask ≡ regions_in mask
unfolding met
met_all zero mask l e = empty (regions_in mask) e
met_all (suc n) mask l e =
    let s = first_and_behind mask l (omega arith) in
    ap (λ (gs : List ℕ). count_trailing_zeros 8 mask ∷ gs) (met_all n (behind mask) (lt_of_le_of_lt (and_le_l mask (mask - 1)) l) (more (e ∙ ap length s)))
    ∙ sym s
  where
    more : {k : ℕ} → suc n ≡ suc k → n ≡ k
    more e = omega arith

-- in as many steps as the five have bits set, exactly the regions of the mask are met, each once, rising
pub walk_meets_the_regions : (mask : ℕ) → mask < 256 → met (ones (bit_and mask 31)) mask ≡ regions_in mask
walk_meets_the_regions mask l = met_all (ones (bit_and mask 31)) mask l (ones_are_regions mask l)

-- ---- sums on the way

cond_le : (t : Bool) (x : ℕ) → cond t x 0 ≤ x
cond_le true x = omega arith
cond_le false x = omega arith

-- a sum over the regions of a mask: region g counts where its bit is set
abbrev pub over_mask : (ℕ → ℕ) → ℕ → ℕ
over_mask f mask = total (λ g. cond (bit_set mask g) (f g) 0) 5

-- the number at the head of a list, and the sum over a list
abbrev head : List ℕ → ℕ
head [] = 0
head (g ∷ gs) = g

abbrev sum_over : (ℕ → ℕ) → List ℕ → ℕ
sum_over f [] = 0
sum_over f (g ∷ gs) = f g + sum_over f gs

sum_first : (f : ℕ → ℕ) (t : Bool) (g : ℕ) (gs : List ℕ) → sum_over f (cond t (g ∷ gs) gs) ≡ cond t (f g) 0 + sum_over f gs
sum_first f true g gs = refl
sum_first f false g gs = omega arith

sum_is_over_mask : (f : ℕ → ℕ) (mask : ℕ) → sum_over f (regions_in mask) ≡ over_mask f mask
unfolding regions_from
sum_is_over_mask f mask =
    omega (
      arith,
      sum_first f (bit_set mask 0) 0 (regions_from mask 1 4),
      sum_first f (bit_set mask 1) 1 (regions_from mask 2 3),
      sum_first f (bit_set mask 2) 2 (regions_from mask 3 2),
      sum_first f (bit_set mask 3) 3 (regions_from mask 4 1),
      sum_first f (bit_set mask 4) 4 (regions_from mask 5 0),
      total_five (λ g. cond (bit_set mask g) (f g) 0),
    )

first_below : (mask g n x : ℕ) (xs : List ℕ) → regions_from mask g n ≡ x ∷ xs → x < g + n
unfolding regions_from
first_below mask g zero x xs e = absurd (zero_one cc)
first_below mask g (suc n) x xs e = by (regions_from mask (suc g) n) (first_below mask (suc g) n x xs) (bit_set mask g) e
  where
    by : (gs : List ℕ) → (gs ≡ x ∷ xs → x < suc g + n) → (t : Bool) → cond t (g ∷ gs) gs ≡ x ∷ xs → x < g + suc n
    by gs h true q = omega (arith, ap head q)
    by gs h false q = omega (arith, h q)

-- no second step fits
pub step_once : (mask : ℕ) (s t : Step) → regions_in mask ≡ s.region.number ∷ regions_in s.rest → s.rest ≡ mask - 2 ^ s.region.number → regions_in mask ≡ t.region.number ∷ regions_in t.rest → t.rest ≡ mask - 2 ^ t.region.number → s ≡ t
step_once mask s t e p d q =
    let number : s.region.number ≡ t.region.number = ap head (sym e ∙ d) in
    let rest : s.rest ≡ t.rest = p ∙ ap (λ (g : ℕ). mask - 2 ^ g) number ∙ sym q in
    λ j. record { region = record { number = number j }; rest = rest j }

-- a mask's first region g, and the mask of those behind
module _ (mask : ℕ) {g : ℕ} (rest : ℕ) (e : regions_in mask ≡ g ∷ regions_in rest) where
  pub first_is_region : g < 5
  first_is_region = first_below mask 0 5 _ _ e

  pub one_fewer : length (regions_in rest) < length (regions_in mask)
  one_fewer = omega (arith, ap length e)

  over_first : (f : ℕ → ℕ) → over_mask f mask ≡ f g + over_mask f rest
  over_first f = sym (sum_is_over_mask f mask) ∙ ap (sum_over f) e ∙ ap (λ (x : ℕ). f g + x) (sum_is_over_mask f rest)

over_none : (f : ℕ → ℕ) (mask : ℕ) → 0 ≡ length (regions_in mask) → over_mask f mask ≡ 0
over_none f mask e = sym (sum_is_over_mask f mask) ∙ ap (sum_over f) (sym (empty (regions_in mask) e))

-- a loop that sums f over the regions of a mask on the walk: with those of the regions that are left the sum is the whole
pub record Summed (f : ℕ → ℕ) (mask sum left : ℕ) : Type 0 where
  pub whole : sum + over_mask f left ≡ over_mask f mask

module _ (f : ℕ → ℕ) (mask : ℕ) where
  pub sum_start : Summed f mask 0 mask
  sum_start = record { whole = omega arith }

  -- a turn: g is the first region that is left, and rest the mask of those behind
  module _ {sum left : ℕ} (s : Summed f mask sum left) {g x : ℕ} (rest : ℕ) (e : regions_in left ≡ g ∷ regions_in rest) (q : x ≡ f g) where
    pub sum_more : Summed f mask (sum + x) rest
    sum_more = record { whole = omega (arith, s.whole, over_first left rest e f) }

    pub sum_room : (b : ℕ) → ((g : ℕ) → g < 5 → f g ≤ b) → sum + x ≤ 5 * b
    sum_room b h = omega (arith, s.whole, over_first left rest e f, total_bound (λ g. cond (bit_set mask g) (f g) 0) b 5 (λ g l. le_trans (cond_le (bit_set mask g) (f g)) (h g l)))

  pub sum_end : {sum left n : ℕ} → Summed f mask sum left → n ≡ length (regions_in left) → n ≤ 0 → sum ≡ over_mask f mask
  sum_end {sum} {left} s e z = omega (arith, s.whole, over_none f left (omega arith))
