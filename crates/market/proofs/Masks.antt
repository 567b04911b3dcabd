-- Masks of regions, one bit each. Assumes nothing.
use Prim.Native.Nat.{ℕ, zero, suc, ◌+◌, ◌*◌, ◌/◌, ◌%◌, ◌^◌, ◌<◌}
use mathlib.Core.Path.{◌≡◌, sym, ap, ap₂, ◌∙◌}
use mathlib.Core.Bool.{cond}
use native.Mathlib.Nat.{zero-lt-suc, mod-lt, zero-mul, one-mul, zero-add, add_comm, not-suc-le-zero, le_of_suc-le-suc}
use lib.Bits.{bit_and, and_block, and_mask, and_zero_r}
use lib.Dec.{eqb}
use lib.Pow.{split, pow_pos}
use Rattle.market.specs.Kinds.{bit_set}

-- a number of one binary digit, times another
digit : (d x : ℕ) → d < 2 → d * x ≡ cond (eqb d 1) x 0
digit zero x h = zero-mul x
digit (suc zero) x h = one-mul x
digit (suc (suc d)) x h = absurd (not-suc-le-zero (le_of_suc-le-suc (le_of_suc-le-suc h)))

-- what two masks have in common is found bit by bit: a further bit of the second is common where it is set in the first
module _ (mask n a : ℕ) (h : a < 2 ^ n) where
  apart : (d : ℕ) → bit_and mask (d * 2 ^ n + a) ≡ bit_and (mask / 2 ^ n) d * 2 ^ n + bit_and (mask % 2 ^ n) a
  apart d =
      ap (λ (x : ℕ). bit_and x (d * 2 ^ n + a)) (sym (split mask n))
      ∙ and_block n (mask / 2 ^ n) d (mask % 2 ^ n) a (mod-lt mask (pow_pos n)) h

  low : bit_and (mask % 2 ^ n) a ≡ bit_and mask a
  low =
      sym (ap (λ (x : ℕ). x * 2 ^ n + bit_and (mask % 2 ^ n) a) (and_zero_r (mask / 2 ^ n)) ∙ ap (λ (x : ℕ). x + bit_and (mask % 2 ^ n) a) (zero-mul (2 ^ n)) ∙ zero-add (bit_and (mask % 2 ^ n) a))
      ∙ sym (apart 0)
      ∙ ap (bit_and mask) (ap (λ (x : ℕ). x + a) (zero-mul (2 ^ n)) ∙ zero-add a)

  pub one_bit_more : bit_and mask (a + 2 ^ n) ≡ bit_and mask a + cond (bit_set mask n) (2 ^ n) 0
  one_bit_more =
      ap (bit_and mask) (add_comm a (2 ^ n) ∙ ap (λ (x : ℕ). x + a) (sym (one-mul (2 ^ n))))
      ∙ apart 1
      ∙ ap₂ (λ (x y : ℕ). x * 2 ^ n + y) (and_mask (mask / 2 ^ n) 1) low
      ∙ ap (λ (x : ℕ). x + bit_and mask a) (digit (mask / 2 ^ n % 2) (2 ^ n) (mod-lt (mask / 2 ^ n) (zero-lt-suc 1)))
      ∙ add_comm (cond (bit_set mask n) (2 ^ n) 0) (bit_and mask a)
