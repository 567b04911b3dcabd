-- Laws of rounding, and of what it cuts off. 01, The amounts: "Rounding takes a quotient to the nearest whole number, halves away from zero."
-- Assumes nothing.
use Prim.Native.Nat.{ℕ, zero, suc, ◌+◌, ◌*◌, ◌/◌, ◌%◌, ◌≤◌, ◌<◌}
use mathlib.Core.Path.{◌≡◌, refl, sym, ap, ◌∙◌}
use mathlib.Core.Bool.{Bool, true, false}
use mathlib.Core.Logic.{◌⊎◌, ⊎_elim}
use native.Mathlib.Nat.{div-eq_of_lt-le, div-add-mod', div-eq_of_lt, div-lt_iff_lt-mul, div-zero, mul-div-le, lt-mul-div-succ, mul-le-mul_left, mul_comm, mul-zero, zero-mul}
use native.Mathlib.Omega.{arith}
use lib.IntN.{ℤ, pos, negsuc, neg_ℤ, nat_abs, ◌+ℤ◌, ◌-ℤ◌, ◌*ℤ◌, neg_ℤ-+ℤ, +ℤ_comm, +ℤ_idl, +ℤ_idr, -ℤ-+ℤ_cancel}
use Rattle.numbers.specs.Sign.{signed, less}
use Rattle.numbers.specs.Round.{round_n, round_z, cut_n, cut_z, Rounds}
use Rattle.numbers.specs.Inner.Round.{Nearest}
use Rattle.numbers.proofs.Sizes.{less_size}
use Rattle.numbers.proofs.Signs.{size_negated}
use Rattle.numbers.proofs.Ring.{less_same}

module _ (n d : ℕ) (h : 0 < d) where
  -- only one whole number is the nearest, with a half up
  pub only : (r : ℕ) → Nearest n d r → round_n n d ≡ r
  only r e = div-eq_of_lt-le (2 * d) (omega (arith, mul_comm r (2 * d), e.low)) (omega (arith, mul_comm (r + 1) (2 * d), e.high))

  -- and rounding gives it
  pub nearest : Nearest n d (round_n n d)
  nearest = record { low = mul-div-le (2 * n + d) (2 * d); high = lt-mul-div-succ (2 * n + d) (omega arith) }

  -- it lies within half of the divisor, both ways
  pub half_above : 2 * n ≤ 2 * d * round_n n d + d
  half_above = omega (arith, nearest.high)

  pub half_below : 2 * d * round_n n d ≤ 2 * n + d
  half_below = nearest.low

  -- by one division: half of the divisor added first, and what an odd divisor loses by that is less than what is left over
  pub half_added : round_n n d ≡ (n + d / 2) / d
  half_added =
      only
      ((n + d / 2) / d)
      (record {
        low = omega (arith, mul-div-le (n + d / 2) d);
        high = omega (arith, lt-mul-div-succ (n + d / 2) h);
      })

  -- and the remainder, less that half, is what was cut off
  pub cut_left : less ((n + d / 2) % d) (d / 2) ≡ cut_n n d
  cut_left =
      less_same ((n + d / 2) % d) (d / 2) n (round_n n d * d)
      (rw half_added (omega (arith, div-add-mod' (n + d / 2) d)))

  -- at most half of the divisor, either way
  pub cut_half : 2 * nat_abs (cut_n n d) ≤ d
  cut_half = less_size n (round_n n d * d) d (omega (arith, nearest.high)) (omega (arith, nearest.low))

-- a share of m is no more than m
pub round_share : (m own total : ℕ) → own ≤ total → round_n (m * own) total ≤ m
round_share m own zero k = rw div-zero (omega arith)
round_share m own (suc t) k =
    let p : m * own ≤ m * suc t = mul-le-mul_left m k in
    let q : round_n (m * own) (suc t) < m + 1 = (div-lt_iff_lt-mul {k = 2 * suc t} {x = 2 * (m * own) + suc t} {y = m + 1} (omega arith)).1 (omega arith) in
    omega arith

pub round_zero : (d : ℕ) → round_n 0 d ≡ 0
round_zero zero = refl
round_zero (suc d) = div-eq_of_lt (omega arith)

-- a share of nothing
pub share_nothing : (m total : ℕ) {own : ℕ} → own ≡ 0 → 0 ≡ round_n (m * own) total
share_nothing m total e = rw (e, mul-zero) (sym (round_zero total))

-- a number of a sign and a size is rounded by its size
pub round_signed : (b : Bool) (n d : ℕ) → round_z (signed b n) d ≡ signed b (round_n n d)
round_signed false n d = refl
round_signed true zero d = rw round_zero
round_signed true (suc n) d = refl

-- ---- what was cut off, of a number with a sign

-- rounded times the divisor, and what was cut off: the number itself
pub exact : (z : ℤ) (d : ℕ) → round_z z d *ℤ pos d +ℤ cut_z z d ≡ z
exact z d = +ℤ_comm (round_z z d *ℤ pos d) (cut_z z d) ∙ -ℤ-+ℤ_cancel z (round_z z d *ℤ pos d)

below_times : (r d : ℕ) → neg_ℤ (pos r) *ℤ pos d ≡ neg_ℤ (pos (r * d))
below_times zero d = rw zero-mul
below_times (suc r) d = refl

-- it turns with the number
cut_negated : (n d : ℕ) → cut_z (neg_ℤ (pos n)) d ≡ neg_ℤ (cut_n n d)
cut_negated n d =
    ap (λ (x : ℤ). neg_ℤ (pos n) -ℤ x *ℤ pos d) (round_signed true n d)
    ∙ ap (λ (x : ℤ). neg_ℤ (pos n) -ℤ x) (below_times (round_n n d) d)
    ∙ sym (neg_ℤ-+ℤ (pos n) (neg_ℤ (pos (round_n n d * d))))

-- twice it is at most the divisor, in size
pub half : (z : ℤ) (d : ℕ) → 0 < d → 2 * nat_abs (cut_z z d) ≤ d
half (pos n) d h = cut_half n d h
half (negsuc n) d h = rw (cut_negated (suc n) d, size_negated) (cut_half (suc n) d h)

-- nothing is cut off nothing
pub cut_none : (d : ℕ) → cut_n 0 d ≡ pos 0
cut_none d = rw (round_zero d, zero-mul)

-- a share of nothing: 0, with nothing cut off
pub nothing_rounds : (m total : ℕ) {own : ℕ} → own ≡ 0 → Rounds (m * own) total (record { whole = 0; cut = pos 0 })
nothing_rounds m total e = rw (e, mul-zero) (record { whole = sym (round_zero total); cut = sym (cut_none total) })

-- of a number that is what is credited less what is charged, one of which is 0: what is cut off is that of the one side less that of the other
pub cut_sides : (a b d : ℕ) → (a ≡ 0) ⊎ (b ≡ 0) → cut_z (less a b) d ≡ cut_n a d -ℤ cut_n b d
cut_sides a b d h =
    ⊎_elim
    (λ (e : a ≡ 0). rw (e, cut_none d) (ap (λ (z : ℤ). cut_z z d) (+ℤ_idl (neg_ℤ (pos b))) ∙ cut_negated b d ∙ sym (+ℤ_idl (neg_ℤ (cut_n b d)))))
    (λ (e : b ≡ 0). rw (e, cut_none d) (ap (λ (z : ℤ). cut_z z d) (+ℤ_idr (pos a)) ∙ sym (+ℤ_idr (cut_n a d))))
    h
