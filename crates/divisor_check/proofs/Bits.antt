-- Check 10 of a constraint by bits: its total is 0 exactly where none of its regions is among those that have energy. Assumes nothing.
use Prim.Native.Nat.{ℕ, zero, suc, ◌+◌, ◌≤◌, ◌<◌, ◌^◌}
use mathlib.Core.Path.{◌≡◌, refl, sym, ap, ◌∙◌}
use mathlib.Core.Bool.{Bool, true, false, ◌&&◌, not, cond, and-true}
use native.Mathlib.Omega.{arith}
use native.Mathlib.Nat.{add-zero, pow-suc, le_trans}
use borrow.Author.Tests.{eqb-true, ne_eqb}
use lib.Bits.{bit_and, and_zero_r}
use lib.Dec.{eqb}
use lib.Pow.{pow_pos}
use Rattle.sections.specs.Total.{total}
use Rattle.sections.proofs.Cases.{cond_same, five}
use Rattle.sections.proofs.Total.{sum_nil, total_none, total_more, total_room}
use Rattle.market.specs.Kinds.{bit_set, basis_of}
use Rattle.market.specs.declared.Basis.{Basis}
use Rattle.market.specs.declared.Basis.TheVariants.{Ace, Asoe, Residual}
use Rattle.market.proofs.Bases.{each_basis}
use Rattle.market.proofs.Masks.{one_bit_more}
use Rattle.records.specs.declared.rows.Entry.{Entry}
use Rattle.records.specs.declared.rows.Constraint.{Constraint}
use Rattle.totals.specs.Sums.{entry_by}
use Rattle.totals.specs.Divisors.{counted_in, over_regions, constraint_divides}
use Rattle.divisor_check.specs.Inner.Live.{bit_with, regions_with, bits_by, have_common, LiveIs}
use Rattle.divisor_check.specs.declared.live.Live.{Live}

-- a region's bit is no larger than that, and of five regions at most 16
bit_small : (energy g : ℕ) → bit_with energy g ≤ 2 ^ g
unfolding bit_with
bit_small energy g = by (eqb energy 0)
  where
    by : (t : Bool) → cond t 0 (2 ^ g) ≤ 2 ^ g
    by true = omega arith
    by false = omega arith

bit_room : (energy g : ℕ) → g < 5 → bit_with energy g ≤ 16
bit_room energy g l = le_trans (bit_small energy g) (five (λ k. 2 ^ k ≤ 16) (omega arith) (omega arith) (omega arith) (omega arith) (omega arith) g l)

-- two numbers that are not 0: what is there of either is 0 together
both_or_none : (t : Bool) (x y : ℕ) → eqb x 0 ≡ false → eqb y 0 ≡ false → eqb (cond t x 0) 0 ≡ eqb (cond t y 0) 0
both_or_none true x y e q = e ∙ sym q
both_or_none false x y e q = refl

module _ (mask : ℕ) (energy : ℕ → ℕ) where
  -- the bits of n regions are n bits
  bits_below : (n : ℕ) → regions_with energy n < 2 ^ n
  unfolding total
  bits_below zero = omega arith
  bits_below (suc n) = rw (pow-suc 2 n) (omega (arith, bits_below n, bit_small (energy n) n))

  -- region g counts where its bit is set
  abbrev counts : ℕ → ℕ
  counts g = cond (bit_set mask g) (energy g) 0

  -- a region's bit is in common with the mask exactly where the region counts
  one_more : (n : ℕ) (t : Bool) → eqb (energy n) 0 ≡ t → eqb (bit_and mask (regions_with energy n + cond t 0 (2 ^ n))) 0 ≡ eqb (bit_and mask (regions_with energy n)) 0 && eqb (counts n) 0
  one_more n true e = rw (add-zero, eqb-true (energy n) 0 e, cond_same {A = ℕ} (bit_set mask n) 0) (sym (and-true (eqb (bit_and mask (regions_with energy n)) 0)))
  one_more n false e =
      ap (λ (x : ℕ). eqb x 0) (one_bit_more mask n (regions_with energy n) (bits_below n))
      ∙ sum_nil (bit_and mask (regions_with energy n)) (cond (bit_set mask n) (2 ^ n) 0)
      ∙ ap (λ (b : Bool). eqb (bit_and mask (regions_with energy n)) 0 && b) (both_or_none (bit_set mask n) (2 ^ n) (energy n) (ne_eqb (2 ^ n) 0 (λ (q : 2 ^ n ≡ 0). omega (arith, pow_pos n))) e)

  -- so the mask has nothing in common with the regions that have energy exactly where its own come to 0
  none_common : (n : ℕ) → eqb (bit_and mask (regions_with energy n)) 0 ≡ eqb (total counts n) 0
  unfolding total bit_with
  none_common zero = ap (λ (x : ℕ). eqb x 0) (and_zero_r mask)
  none_common (suc n) =
      one_more n (eqb (energy n) 0) refl
      ∙ ap (λ (b : Bool). b && eqb (counts n) 0) (none_common n)
      ∙ sym (sum_nil (total counts n) (counts n))

-- the regions that have energy, entry by entry: none, a region more, and room for it
module _ (entry : ℕ → Entry) where
  pub live_none : LiveIs entry 0 (record { ace = 0; asoe = 0; residual = 0 })
  live_none = record { each = each_basis _ (total_none _) (total_none _) (total_none _) }

  module _ {g : ℕ} {x : Live} {e : Entry} (l : LiveIs entry g x) (q : e ≡ entry g) where
    pub live_more : {a o r : ℕ} → a ≡ bit_with e.ace g → o ≡ bit_with e.asoe g → r ≡ bit_with e.residual g → LiveIs entry (g + 1) (record { ace = x.ace + a; asoe = x.asoe + o; residual = x.residual + r })
    live_more a o r = record { each = each_basis _ (more Ace a) (more Asoe o) (more Residual r) }
      where
        more : (b : Basis) {p : ℕ} → p ≡ bit_with (entry_by b e) g → bits_by b x + p ≡ regions_with (λ k. entry_by b (entry k)) (g + 1)
        more b p = total_more _ g (l.each b) (p ∙ ap (λ (e : Entry). bit_with (entry_by b e) g) q)

    pub live_room : (b : Basis) {p : ℕ} → g < 5 → p ≡ bit_with (entry_by b e) g → bits_by b x + p ≤ 80
    live_room b m p = total_room _ 16 5 (λ k l. bit_room _ k l) g (l.each b) (p ∙ ap (λ (e : Entry). bit_with (entry_by b e) g) q) m

-- the test of check 10
pub divides_at : (entry : ℕ → Entry) {x : Live} → LiveIs entry 5 x → (con : ℕ → Constraint) (j : ℕ) {r : Constraint} {b : Bool} → r ≡ con j → b ≡ have_common r.mask (bits_by (basis_of r.service) x) → b ≡ constraint_divides entry con j
unfolding constraint_divides counted_in
divides_at entry l con j {r} d q =
    q
    ∙ ap not (ap (λ (m : ℕ). eqb (bit_and r.mask m) 0) (l.each (basis_of r.service)) ∙ none_common r.mask (λ g. entry_by (basis_of r.service) (entry g)) 5)
    ∙ ap (λ (k : Constraint). not (eqb (over_regions entry k) 0)) d
