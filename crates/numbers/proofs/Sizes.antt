-- The sizes of a signed number are what the number itself says, in two's complement; and sums of signed numbers by their sizes.
-- Assumes nothing.
use Prim.Native.Nat.{ℕ, zero, suc, ◌+◌, ◌-◌, ◌*◌, ◌≤◌, ◌<◌, ◌^◌}
use mathlib.Core.Path.{◌≡◌, refl, sym, ap, ◌∙◌}
use mathlib.Core.Bool.{Bool, true, false, cond}
use mathlib.Core.Logic.{◌↔◌}
use borrow.Author.Tests.{ltb-true, ltb-false}
use native.Mathlib.Omega.{arith}
use native.Mathlib.Nat.{not-suc-le-zero}
use lib.Dec.{ltb, le→leb, leb→le}
use lib.IntN.{ℤ, pos, negsuc, neg_ℤ, nat_abs, ◌+ℤ◌, +ℤ_assoc, +ℤ_comm, +ℤ_idl, +ℤ_invr, neg_ℤ-+ℤ, pos-+ℤ-pos, -ℤ-+ℤ_cancel}
use lib.Signed.{◌≤ℤ◌}
use mir.Syntax.{Width, w32}
use mir.Val.{to_z, bits, hbits}
use Rattle.numbers.specs.Sign.{less}
use Rattle.numbers.specs.Sizes.{size_below, above_of, below_of, InRange}
use Rattle.numbers.specs.Inner.Sizes.{Sides, above, below}
use Rattle.numbers.proofs.Bits.{high}

-- the size of bits that are not 0
size_is : (w : ℕ) → 0 < w → w < 2 ^ 32 → size_below w ≡ suc (4_294_967_296 - suc w)
size_is w l h = omega arith

-- ---- the number

-- bits are the number of their two sizes
pub sides_of : (w : ℕ) → w < 2 ^ 32 → Sides (to_z w32 w) (above_of w) (below_of w)
unfolding above_of below_of
sides_of w h = by (ltb w 2_147_483_648) refl
  where
    by : (t : Bool) → ltb w 2_147_483_648 ≡ t → Sides (cond t (pos w) (negsuc (4_294_967_296 - suc w))) (cond t w 0) (cond t 0 (size_below w))
    by true e = above refl refl
    by false e =
        let l = ltb-false w 2_147_483_648 e in
        let k = size_is w (omega arith) h in
        below (rw k refl) refl

-- where the one size that is read is small, the number is that much below 0
pub minus_is : (w : ℕ) → w < 2 ^ 32 → size_below w < 2 ^ 31 → to_z w32 w ≡ neg_ℤ (pos (size_below w))
minus_is zero h l = refl
minus_is (suc u) h l = let e = size_is (suc u) (omega arith) h in high w32 (suc u) (omega arith) ∙ rw e refl

-- ---- ranges

low_pos : (limit n : ℕ) → neg_ℤ (pos limit) ≤ℤ pos n
low_pos zero n = record { le = le→leb 0 n (omega arith) }
low_pos (suc m) n = record { le = tt }

low_neg : (limit k : ℕ) → (suc k ≤ limit) ↔ (neg_ℤ (pos limit) ≤ℤ negsuc k)
low_neg zero k = ((λ q. absurd (not-suc-le-zero q)), λ r. absurd r.le)
low_neg (suc m) k = ((λ q. record { le = le→leb k m (omega arith) }), λ r. omega (arith, leb→le k m r.le))

-- "-20,000,000 to 0", and every limit below 2 ^ 31: the size that is read is at most the limit
pub minus_to_zero : (limit w : ℕ) → limit < 2 ^ 31 → w < 2 ^ 32 → (size_below w ≤ limit) ↔ InRange (neg_ℤ (pos limit)) (pos 0) (to_z w32 w)
minus_to_zero limit w l h = by (ltb w 2_147_483_648) refl
  where
    none : w ≡ 0 → InRange (neg_ℤ (pos limit)) (pos 0) (pos w)
    none e = rw e (record { low = low_pos limit 0; high = record { le = tt } })

    by : (t : Bool) → ltb w 2_147_483_648 ≡ t → (size_below w ≤ limit) ↔ InRange (neg_ℤ (pos limit)) (pos 0) (cond t (pos w) (negsuc (4_294_967_296 - suc w)))
    by true e =
        let m = ltb-true w 2_147_483_648 e in
        ((λ q. none (omega arith)), λ r. omega (arith, leb→le w 0 r.high.le))
    by false e =
        let m = ltb-false w 2_147_483_648 e in
        let k = size_is w (omega arith) h in
        let n = low_neg limit (4_294_967_296 - suc w) in
        ((λ q. record { low = n.0 (omega arith); high = record { le = tt } }), λ r. omega (arith, n.1 r.low))

-- "0 to 20,000,000" of 32 bits, "0 to 50,000,000,000" of 64: the bits themselves are at most the limit
pub zero_to : (v : Width) (limit u : ℕ) → limit < 2 ^ hbits v → (u ≤ limit) ↔ InRange (pos 0) (pos limit) (to_z v u)
zero_to v limit u l = by (ltb u (2 ^ hbits v)) refl
  where
    by : (t : Bool) → ltb u (2 ^ hbits v) ≡ t → (u ≤ limit) ↔ InRange (pos 0) (pos limit) (cond t (pos u) (negsuc (2 ^ bits v - suc u)))
    by true e = ((λ q. record { low = record { le = le→leb 0 u (omega arith) }; high = record { le = le→leb u limit q } }), λ r. leb→le u limit r.high.le)
    by false e = ((λ q. absurd (over q (ltb-false u (2 ^ hbits v) e))), λ r. absurd r.low.le)
      where
        over : u ≤ limit → 2 ^ hbits v ≤ u → ⊥
        over q m = omega arith

-- "within 1,000,000 either way": neither size is above the limit
pub either_way : (limit w : ℕ) → w < 2 ^ 32 → ((above_of w ≤ limit) × (below_of w ≤ limit)) ↔ InRange (neg_ℤ (pos limit)) (pos limit) (to_z w32 w)
unfolding above_of below_of
either_way limit w h = by (ltb w 2_147_483_648) refl
  where
    by : (t : Bool) → ltb w 2_147_483_648 ≡ t → ((cond t w 0 ≤ limit) × (cond t 0 (size_below w) ≤ limit)) ↔ InRange (neg_ℤ (pos limit)) (pos limit) (cond t (pos w) (negsuc (4_294_967_296 - suc w)))
    by true e = ((λ p. record { low = low_pos limit w; high = record { le = le→leb w limit p.0 } }), λ r. (leb→le w limit r.high.le, omega arith))
    by false e =
        let l = ltb-false w 2_147_483_648 e in
        let k = size_is w (omega arith) h in
        let n = low_neg limit (4_294_967_296 - suc w) in
        ((λ p. record { low = n.0 (omega (arith, p.1)); high = record { le = tt } }), λ r. (omega arith, omega (arith, n.1 r.low)))

-- ---- sums

swap : (a b c d : ℤ) → (a +ℤ b) +ℤ (c +ℤ d) ≡ (a +ℤ c) +ℤ (b +ℤ d)
swap a b c d =
    +ℤ_assoc a b (c +ℤ d)
    ∙ ap (λ (x : ℤ). a +ℤ x) (sym (+ℤ_assoc b c d) ∙ ap (λ (x : ℤ). x +ℤ d) (+ℤ_comm b c) ∙ +ℤ_assoc c b d)
    ∙ sym (+ℤ_assoc a c (b +ℤ d))

-- a sum of signed numbers is what lies above 0, summed, less what lies below, summed
pub less_plus : (a b c d : ℕ) → less a b +ℤ less c d ≡ less (a + c) (b + d)
less_plus a b c d =
    swap (pos a) (neg_ℤ (pos b)) (pos c) (neg_ℤ (pos d))
    ∙ ap (λ (x : ℤ). x +ℤ (neg_ℤ (pos b) +ℤ neg_ℤ (pos d))) (pos-+ℤ-pos a c)
    ∙ ap (λ (x : ℤ). pos (a + c) +ℤ x) (sym (neg_ℤ-+ℤ (pos b) (pos d)) ∙ ap neg_ℤ (pos-+ℤ-pos b d))

-- it is 0 exactly where the two are equal
pub less_zero : (a b : ℕ) → less a b ≡ pos 0 → a ≡ b
less_zero a b e =
    let q : pos a ≡ pos b = sym (-ℤ-+ℤ_cancel (pos a) (pos b)) ∙ ap (λ (x : ℤ). x +ℤ pos b) e ∙ +ℤ_idl (pos b) in
    cc

pub zero_less : (a b : ℕ) → a ≡ b → less a b ≡ pos 0
zero_less a b e = rw e (+ℤ_invr (pos b))

-- and where the two lie within n halves of each other, so does its size
pub less_size : (a b n : ℕ) → 2 * a ≤ 2 * b + n → 2 * b ≤ 2 * a + n → 2 * nat_abs (less a b) ≤ n
less_size a zero n h k = omega arith
less_size a (suc b) n h k = by (ltb a (suc b)) refl
  where
    by : (t : Bool) → ltb a (suc b) ≡ t → 2 * nat_abs (cond t (negsuc (suc b - suc a)) (pos (a - suc b))) ≤ n
    by true e = omega (arith, ltb-true a (suc b) e)
    by false e = omega (arith, ltb-false a (suc b) e)
