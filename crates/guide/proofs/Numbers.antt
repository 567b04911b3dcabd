-- Numbers that are held by their sizes, and the numbers with their signs: products, roundings and sums of the one are those of the other.
-- Assumes nothing.
use Prim.Native.Nat.{ℕ, zero, suc, ◌+◌, ◌-◌, ◌*◌, ◌≤◌, ◌<◌}
use mathlib.Core.Path.{◌≡◌, refl, sym, ap, ◌∙◌}
use mathlib.Core.Bool.{Bool, true, false, cond}
use native.Mathlib.Omega.{arith}
use native.Mathlib.Nat.{mul-zero, mul_comm, div-zero, le_refl}
use borrow.Author.Tests.{le-ltb}
use lib.IntN.{ℤ, pos, neg_ℤ, nat_abs, ◌+ℤ◌, ◌-ℤ◌, ◌*ℤ◌, +ℤ_idl, +ℤ_idr, neg_ℤ-neg_ℤ, neg_ℤ-+ℤ, *ℤ_comm}
use Rattle.numbers.specs.Round.{round_n, round_z}
use Rattle.numbers.specs.Sign.{less}
use Rattle.numbers.specs.Inner.Sizes.{Sides, above, below}
use Rattle.numbers.proofs.Rounding.{round_zero, round_signed}
use Rattle.numbers.proofs.Signs.{size_signed}
use Rattle.numbers.proofs.Sizes.{less_plus}
use Rattle.sections.specs.Total.{total}
use Rattle.amounts.specs.Shares.{by_factor, by_energy}
use Rattle.amounts.proofs.Signed.{charge_shared}
use Rattle.guide.specs.Numbers.{sum, round, min0, whole_factor}

-- ---- a number by its two sides

module _ {z : ℤ} {a b : ℕ} where
  pub sides_less : Sides z a b → z ≡ less a b
  sides_less (above e f) = e ∙ sym (+ℤ_idr (pos a)) ∙ ap (less a) (sym f)
  sides_less (below e f) = e ∙ sym (+ℤ_idl (neg_ℤ (pos b))) ∙ ap (λ (k : ℕ). less k b) (sym f)

  -- "min(0, CF)" is the side below 0
  pub sides_min0 : Sides z a b → min0 z ≡ neg_ℤ (pos b)
  unfolding min0
  sides_min0 (above e f) = rw (e, f)
  sides_min0 (below e f) = rw e (low b)
    where
      low : (n : ℕ) → min0 (neg_ℤ (pos n)) ≡ neg_ℤ (pos n)
      low zero = refl
      low (suc n) = refl

-- a number that is not above 0
pub only_below : (b : ℕ) {z : ℤ} → z ≡ neg_ℤ (pos b) → Sides z 0 b
only_below b e = below e refl

-- ---- products and quotients

times_minus : (k n : ℕ) → pos k *ℤ neg_ℤ (pos n) ≡ neg_ℤ (pos (k * n))
times_minus k zero = ap pos (mul-zero k) ∙ ap (λ (m : ℕ). neg_ℤ (pos m)) (sym (mul-zero k))
times_minus k (suc n) = refl

module _ {z : ℤ} {a b : ℕ} where
  -- k times the number, from either side
  times : (k : ℕ) → Sides z a b → Sides (pos k *ℤ z) (k * a) (k * b)
  times k (above e f) = above (ap (λ (x : ℤ). pos k *ℤ x) e) (ap (λ (n : ℕ). k * n) f ∙ mul-zero k)
  times k (below e f) = below (ap (λ (x : ℤ). pos k *ℤ x) e ∙ times_minus k b) (ap (λ (n : ℕ). k * n) f ∙ mul-zero k)

  -- rounding keeps the side
  rounded : (d : ℕ) → Sides z a b → Sides (round_z z d) (round_n a d) (round_n b d)
  rounded d (above e f) = above (ap (λ (x : ℤ). round_z x d) e) (ap (λ (n : ℕ). round_n n d) f ∙ round_zero d)
  rounded d (below e f) = below (ap (λ (x : ℤ). round_z x d) e ∙ round_signed true b d) (ap (λ (n : ℕ). round_n n d) f ∙ round_zero d)

module _ {z : ℤ} {a b : ℕ} (s : Sides z a b) where
  -- "round(pool x factor / 1,000,000)", of a factor on either side
  pub factor_sides : {p : ℤ} {pool : ℕ} → p ≡ pos pool → Sides (round (p *ℤ z) whole_factor) (round_n (pool * a) 1_000_000) (round_n (pool * b) 1_000_000)
  unfolding round
  factor_sides {pool = pool} e = rw e (rounded 1_000_000 (times pool s))

  -- "round(residual pool x TE / ATE)", of a pool on either side
  pub energy_sides : {x y : ℤ} {own total : ℕ} → x ≡ pos own → y ≡ pos total → Sides (round (z *ℤ x) y) (round_n (a * own) total) (round_n (b * own) total)
  unfolding round
  energy_sides {own = own} {total = total} e f =
      rw (e, f, *ℤ_comm z (pos own), mul_comm a own, mul_comm b own) (rounded total (times own s))

pub factor_minus : (b : ℕ) {z p : ℤ} {pool : ℕ} → z ≡ neg_ℤ (pos b) → p ≡ pos pool → round (p *ℤ z) whole_factor ≡ neg_ℤ (pos (round_n (pool * b) 1_000_000))
unfolding round
factor_minus b {pool = pool} e f = rw (e, f) (ap (λ (x : ℤ). round_z x 1_000_000) (times_minus pool b) ∙ round_signed true (pool * b) 1_000_000)

pub by_factor_lem : {z p : ℤ} {a b pool : ℕ} → Sides z a b → p ≡ pos pool → by_factor pool a b ≡ round (p *ℤ z) whole_factor
unfolding by_factor
by_factor_lem s e = sym (sides_less (factor_sides s e))

pub by_energy_lem : {z x y : ℤ} {a b own total : ℕ} → Sides z a b → x ≡ pos own → y ≡ pos total → by_energy a b own total ≡ round (z *ℤ x) y
unfolding by_energy
by_energy_lem s e f = sym (sides_less (energy_sides s e f))

-- "own and total are both negative, the share is not"
share_below : (c o t : ℕ) → round (pos c *ℤ neg_ℤ (pos o)) (neg_ℤ (pos t)) ≡ pos (round_n (c * o) t)
unfolding round
share_below c o zero = ap (λ (x : ℤ). round_z x 0) (times_minus c o) ∙ round_signed true (c * o) 0 ∙ rw div-zero refl
share_below c o (suc t) =
    ap (λ (x : ℤ). round_z (neg_ℤ x) (suc t)) (times_minus c o) ∙ ap (λ (x : ℤ). round_z x (suc t)) (neg_ℤ-neg_ℤ (pos (c * o)))

-- "-round(cost x own / total)", by ASOE and by ACE
module _ {x y w : ℤ} {c : ℕ} (e : x ≡ pos c) (o t : ℕ) where
  pub charge_sent : y ≡ pos o → w ≡ pos t → by_energy 0 c o t ≡ neg_ℤ (round (x *ℤ y) w)
  unfolding round
  charge_sent f g = rw (e, f, g) (charge_shared c o t)

  pub charge_consumed : y ≡ neg_ℤ (pos o) → w ≡ neg_ℤ (pos t) → by_energy 0 c o t ≡ neg_ℤ (round (x *ℤ y) w)
  charge_consumed f g = rw (e, f, g) (charge_shared c o t ∙ ap neg_ℤ (sym (share_below c o t)))

-- a smaller number taken from a larger one
pub rest_is : {x y : ℤ} {a b : ℕ} → x ≡ pos a → y ≡ pos b → b ≤ a → x -ℤ y ≡ pos (a - b)
rest_is {a = a} {b = b} e f l = rw (e, f) (by b l)
  where
    by : (n : ℕ) → n ≤ a → pos a -ℤ pos n ≡ pos (a - n)
    by zero l = ap pos (omega arith)
    by (suc n) l = rw (le-ltb a (suc n) l) refl

-- ---- sums

-- h takes sizes to numbers, and sums to sums
module _ (h : ℕ → ℤ) (nil : h 0 ≡ pos 0) (plus : (a b : ℕ) → h a +ℤ h b ≡ h (a + b)) where
  kept : (t : Bool) {z : ℤ} {a : ℕ} → z ≡ h a → cond t z (pos 0) ≡ h (cond t a 0)
  kept true e = e
  kept false e = sym nil

  summed : (x : ℕ → ℤ) (t : ℕ → ℕ) (n : ℕ) → ((i : ℕ) → i < n → x i ≡ h (t i)) → sum x n ≡ h (total t n)
  unfolding sum total
  summed x t zero f = sym nil
  summed x t (suc n) f = rw (summed x t n (λ i l. f i (omega arith)), f n (le_refl (suc n))) (plus (total t n) (t n))

-- of numbers that are not below 0, and of numbers that are not above it
abbrev minus : ℕ → ℤ
minus n = neg_ℤ (pos n)

pub minus_plus : (a b : ℕ) → neg_ℤ (pos a) +ℤ neg_ℤ (pos b) ≡ neg_ℤ (pos (a + b))
minus_plus a b = sym (neg_ℤ-+ℤ (pos a) (pos b))

module _ (x : ℕ → ℤ) (t : ℕ → ℕ) (p : ℕ → Bool) (n : ℕ) where
  pub sum_pos : ((i : ℕ) → i < n → x i ≡ pos (t i)) → sum (λ i. cond (p i) (x i) (pos 0)) n ≡ pos (total (λ i. cond (p i) (t i) 0) n)
  sum_pos f =
      summed pos refl (λ a b. refl) (λ i. cond (p i) (x i) (pos 0)) (λ i. cond (p i) (t i) 0) n
      (λ i l. kept pos refl (λ a b. refl) (p i) (f i l))

  pub sum_minus : ((i : ℕ) → i < n → x i ≡ neg_ℤ (pos (t i))) → sum (λ i. cond (p i) (x i) (pos 0)) n ≡ neg_ℤ (pos (total (λ i. cond (p i) (t i) 0) n))
  sum_minus f =
      summed minus refl minus_plus (λ i. cond (p i) (x i) (pos 0)) (λ i. cond (p i) (t i) 0) n
      (λ i l. kept minus refl minus_plus (p i) (f i l))

-- of numbers on either side
pub sum_less : (x : ℕ → ℤ) (a b : ℕ → ℕ) (p : ℕ → Bool) (n : ℕ) → ((i : ℕ) → i < n → x i ≡ less (a i) (b i)) → sum (λ i. cond (p i) (x i) (pos 0)) n ≡ less (total (λ i. cond (p i) (a i) 0) n) (total (λ i. cond (p i) (b i) 0) n)
unfolding sum total
sum_less x a b p zero f = refl
sum_less x a b p (suc n) f =
    rw (sum_less x a b p n (λ i l. f i (omega arith)), one (p n) (a n) (b n) (f n (le_refl (suc n))))
    (less_plus (total (λ i. cond (p i) (a i) 0) n) (total (λ i. cond (p i) (b i) 0) n) (cond (p n) (a n) 0) (cond (p n) (b n) 0))
  where
    one : (t : Bool) {z : ℤ} (k m : ℕ) → z ≡ less k m → cond t z (pos 0) ≡ less (cond t k 0) (cond t m 0)
    one true k m e = e
    one false k m e = refl

-- ---- back to the sizes

pub pos_back : (a b : ℕ) → pos a ≡ pos b → a ≡ b
pos_back a b e = ap nat_abs e

pub minus_back : (a b : ℕ) → neg_ℤ (pos a) ≡ neg_ℤ (pos b) → a ≡ b
minus_back a b e = sym (size_signed true a) ∙ ap nat_abs e ∙ size_signed true b
