-- The energy of rows, summed by region and then over the regions of a part, is the energy that the part counts, summed over the rows: for all
-- rows, and for an account's own. Assumes nothing.
use Prim.Native.Nat.{ℕ, ◌^◌, ◌≤◌, ◌<◌}
use mathlib.Core.Path.{◌≡◌, refl, sym, ap, ◌∙◌}
use mathlib.Core.Bool.{Bool, true, false, cond, not}
use native.Mathlib.Omega.{arith}
use borrow.Author.Tests.{eq-eqb, ne_eqb}
use lib.Dec.{eqb}
use Rattle.sections.proofs.Cases.{cond_same}
use Rattle.sections.specs.Total.{total, keyed, total_of}
use Rattle.sections.specs.Search.{all}
use Rattle.sections.proofs.Total.{total_zero, total_same, total_swap, keyed_hit, keyed_miss, total_only}
use Rattle.sections.proofs.Search.{all_each}
use Rattle.market.specs.Kinds.{bit_set}
use Rattle.market.specs.declared.Basis.{Basis}
use Rattle.records.specs.declared.rows.Entry.{Entry}
use Rattle.records.specs.declared.rows.Constraint.{Constraint}
use Rattle.records.specs.declared.rows.EnergyRow.{EnergyRow}
use Rattle.totals.specs.Sums.{entry_by, row_by, region_of}
use Rattle.totals.specs.Divisors.{counted_in, over_regions}
use Rattle.sharing.specs.Inner.Shares.{energy_in}
use Rattle.sharing.specs.declared.shares.Part.{Part}
use Rattle.recovery.specs.Inner.Shapes.{part_of}

-- ---- sums

-- a choice of the whole sum, or of each of its numbers
choice_total : (t : Bool) (f : ℕ → ℕ) (n : ℕ) → cond t (total f n) 0 ≡ total (λ i. cond t (f i) 0) n
choice_total true f n = refl
choice_total false f n = total_zero (λ i. 0) n (λ k l. refl)

-- two choices, in either order
pub choices : (a b : Bool) (x : ℕ) → cond a (cond b x 0) 0 ≡ cond b (cond a x 0) 0
choices true true x = refl
choices true false x = refl
choices false true x = refl
choices false false x = refl

-- ---- the mask of one region

agree : Bool → Bool → Bool
agree a b = cond a b (not b)

agreed : (a b : Bool) → agree a b ≡ true → a ≡ b
unfolding agree
agreed true b e = sym e
agreed false true e = cc
agreed false false e = refl

pub one_region : (g h : ℕ) → g < 5 → h < 5 → bit_set (2 ^ g) h ≡ eqb h g
unfolding all agree
one_region g h k l =
    agreed (bit_set (2 ^ g) h) (eqb h g)
    (all_each (λ h. agree (bit_set (2 ^ g) h) (eqb h g)) 5 (all_each (λ g. all (λ h. agree (bit_set (2 ^ g) h) (eqb h g)) 5) 5 refl g k) h l)

-- ---- from regions to rows; e g has the sums over those of the rows in region g that count

pub record Counted (energy : ℕ → EnergyRow) (n : ℕ) (counts : ℕ → Bool) (e : ℕ → Entry) : Type 0 where
  pub low : (i : ℕ) → i < n → (energy i).region ≤ 4
  pub sums : (b : Basis) (g : ℕ) → g < 5 → entry_by b (e g) ≡ total_of (region_of energy) g (λ i. cond (counts i) (row_by b (energy i)) 0) n

module _ {energy : ℕ → EnergyRow} {n : ℕ} {counts : ℕ → Bool} {e : ℕ → Entry} (c : Counted energy n counts e) where
  -- what a row counts for, in its own region only
  row_part : (p : Part) (i : ℕ) → i < n → total (λ g. cond (bit_set p.mask g) (keyed (region_of energy) g (λ i. cond (counts i) (row_by p.basis (energy i)) 0) i) 0) 5 ≡ cond (counts i) (energy_in p (energy i)) 0
  unfolding energy_in
  row_part p i l =
      let x : ℕ → ℕ = λ i. cond (counts i) (row_by p.basis (energy i)) 0 in
      let low = c.low i l in
      total_only (λ g. cond (bit_set p.mask g) (keyed (region_of energy) g x i) 0) (energy i).region 5 (omega arith)
      (λ g m d. ap (λ (y : ℕ). cond (bit_set p.mask g) y 0) (keyed_miss (region_of energy) g x i (λ q. d (sym q))) ∙ cond_same (bit_set p.mask g) 0)
      ∙ ap (λ (y : ℕ). cond (bit_set p.mask (energy i).region) y 0) (sym (keyed_hit (region_of energy) (energy i).region x i refl))
      ∙ choices (bit_set p.mask (energy i).region) (counts i) (row_by p.basis (energy i))

  part_energy : (p : Part) → total (λ g. cond (bit_set p.mask g) (entry_by p.basis (e g)) 0) 5 ≡ total (λ i. cond (counts i) (energy_in p (energy i)) 0) n
  part_energy p =
      let x : ℕ → ℕ → ℕ = λ g i. keyed (region_of energy) g (λ i. cond (counts i) (row_by p.basis (energy i)) 0) i in
      total_same _ (λ g. total (λ i. cond (bit_set p.mask g) (x g i) 0) n) 5
      (λ g l. ap (λ (y : ℕ). cond (bit_set p.mask g) y 0) (c.sums p.basis g l) ∙ choice_total (bit_set p.mask g) (x g) n)
      ∙ total_swap (λ g i. cond (bit_set p.mask g) (x g i) 0) n 5
      ∙ total_same _ _ n (row_part p)

  -- over a constraint's regions
  pub constraint_energy : (entry : ℕ → Entry) (r : Constraint) (amount : ℕ) → over_regions e r ≡ total (λ i. cond (counts i) (energy_in (part_of entry r amount) (energy i)) 0) n
  unfolding counted_in part_of
  constraint_energy entry r amount = part_energy (part_of entry r amount)

  -- in one region
  pub region_energy : (p : Part) (g : ℕ) → g < 5 → p.mask ≡ 2 ^ g → entry_by p.basis (e g) ≡ total (λ i. cond (counts i) (energy_in p (energy i)) 0) n
  region_energy p g l m = sym alone ∙ part_energy p
    where
      other : (h : ℕ) → h < 5 → (h ≡ g → ⊥) → cond (bit_set p.mask h) (entry_by p.basis (e h)) 0 ≡ 0
      other h k d = rw (m, one_region g h l k, ne_eqb h g d)

      here : cond (bit_set p.mask g) (entry_by p.basis (e g)) 0 ≡ entry_by p.basis (e g)
      here = rw (m, one_region g g l l, eq-eqb g g refl)

      alone : total (λ h. cond (bit_set p.mask h) (entry_by p.basis (e h)) 0) 5 ≡ entry_by p.basis (e g)
      alone = total_only _ g 5 l other ∙ here
