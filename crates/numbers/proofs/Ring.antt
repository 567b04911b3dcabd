-- Sums and products of whole numbers with a sign. Each number is what lies above 0 less what lies below, so that an equation of them is one of
-- sizes, which `omega` reads. Assumes nothing.
use Prim.Native.Nat.{ℕ, zero, suc, ◌+◌, ◌-◌, ◌*◌, ◌<◌}
use mathlib.Core.Path.{◌≡◌, refl, sym, ap, ◌∙◌}
use mathlib.Core.Bool.{Bool, true, false, cond}
use borrow.Author.Tests.{ltb-true, ltb-false}
use native.Mathlib.Omega.{arith}
use native.Mathlib.Nat.{eq_of_mul-eq-mul_right}
use lib.Dec.{ltb}
use lib.IntN.{ℤ, pos, negsuc, neg_ℤ, ◌+ℤ◌, ◌-ℤ◌, ◌*ℤ◌, +ℤ_comm, +ℤ_idl, +ℤ_idr, neg_ℤ-+ℤ, neg_ℤ-neg_ℤ, *ℤ-negsuc}
use Rattle.numbers.specs.Sign.{less}
use Rattle.numbers.proofs.Sizes.{less_plus}

-- a less b. Shut, so that a rewrite finds it
infixl 6 ◌⊖◌
unfoldable pub ◌⊖◌ : ℕ → ℕ → ℤ
a ⊖ b = pos a -ℤ pos b

-- a number from 0 up
pub above : (n : ℕ) → pos n ≡ n ⊖ 0
unfolding ◌⊖◌
above n = sym (+ℤ_idr (pos n))

-- a number below 0
below : (n : ℕ) → negsuc n ≡ 0 ⊖ suc n
unfolding ◌⊖◌
below n = sym (+ℤ_idl (negsuc n))

-- a sum: above and below, each added
pub sum : (a b c d : ℕ) → (a ⊖ b) +ℤ (c ⊖ d) ≡ (a + c) ⊖ (b + d)
unfolding ◌⊖◌
sum a b c d = less_plus a b c d

-- minus a number: above and below exchanged
pub turned : (a b : ℕ) → neg_ℤ (a ⊖ b) ≡ b ⊖ a
unfolding ◌⊖◌
turned a b = neg_ℤ-+ℤ (pos a) (neg_ℤ (pos b)) ∙ ap (λ (x : ℤ). neg_ℤ (pos a) +ℤ x) (neg_ℤ-neg_ℤ (pos b)) ∙ +ℤ_comm (neg_ℤ (pos a)) (pos b)

-- by its sign
signs : (a b : ℕ) (P : ℤ → Type 0) → ((n : ℕ) → a ≡ b + n → P (pos n)) → ((n : ℕ) → b ≡ a + suc n → P (negsuc n)) → P (a ⊖ b)
unfolding ◌⊖◌
signs a zero P f g = f (a + 0) (omega arith)
signs a (suc b) P f g = by (ltb a (suc b)) refl
  where
    by : (t : Bool) → ltb a (suc b) ≡ t → P (cond t (negsuc (suc b - suc a)) (pos (a - suc b)))
    by true e = g (suc b - suc a) (omega (arith, ltb-true a (suc b) e))
    by false e = f (a - suc b) (omega (arith, ltb-false a (suc b) e))

-- two are the same exactly where each above, with the other's below, is
pub same : (a b c d : ℕ) → a + d ≡ c + b → a ⊖ b ≡ c ⊖ d
same a b c d e =
    signs a b (λ z. z ≡ c ⊖ d)
    (λ n h. signs c d (λ z. pos n ≡ z) (λ m k. ap pos (omega arith)) (λ m k. absurd (omega arith)))
    (λ n h. signs c d (λ z. negsuc n ≡ z) (λ m k. absurd (omega arith)) (λ m k. ap negsuc (omega arith)))

-- and the other way
pub apart : (a b c d : ℕ) → a ⊖ b ≡ c ⊖ d → a + d ≡ c + b
apart a b c d =
    signs a b (λ z. z ≡ c ⊖ d → a + d ≡ c + b)
    (λ n h. signs c d (λ z. pos n ≡ z → a + d ≡ c + b) (λ m k e. let q : n ≡ m = cc in omega arith) (λ m k e. absurd (never n m e)))
    (λ n h. signs c d (λ z. negsuc n ≡ z → a + d ≡ c + b) (λ m k e. absurd (never m n (sym e))) (λ m k e. let q : n ≡ m = cc in omega arith))
  where
    never : (n m : ℕ) → pos n ≡ negsuc m → ⊥
    never n m e = let q : ◌≡◌ {A = ℕ} 0 1 = cc in omega arith

-- a multiple
times : (a b t : ℕ) → (a ⊖ b) *ℤ pos t ≡ (a * t) ⊖ (b * t)
times a b t =
    signs a b (λ z. z *ℤ pos t ≡ (a * t) ⊖ (b * t))
    (λ n h. above (n * t) ∙ same (n * t) 0 (a * t) (b * t) (rw h (omega arith)))
    (λ n h. ap neg_ℤ (above (suc n * t)) ∙ turned (suc n * t) 0 ∙ same 0 (suc n * t) (a * t) (b * t) (rw h (omega arith)))

-- a product: like sides make what lies above, unlike ones what lies below
pub product : (a b c d : ℕ) → (a ⊖ b) *ℤ (c ⊖ d) ≡ (a * c + b * d) ⊖ (a * d + b * c)
product a b c d =
    signs c d (λ z. (a ⊖ b) *ℤ z ≡ (a * c + b * d) ⊖ (a * d + b * c))
    (λ n h. times a b n ∙ same (a * n) (b * n) (a * c + b * d) (a * d + b * c) (rw h (omega arith)))
    (λ n h. *ℤ-negsuc (a ⊖ b) n ∙ ap neg_ℤ (times a b (suc n)) ∙ turned (a * suc n) (b * suc n) ∙ same (b * suc n) (a * suc n) (a * c + b * d) (a * d + b * c) (rw h (omega arith)))

-- ---- every number is one: its two sizes

pub record Parts (z : ℤ) : Type 0 where
  pub up : ℕ
  pub down : ℕ
  pub is : z ≡ up ⊖ down

-- from 0 up nothing lies below, and below 0 nothing above
pub parts : (z : ℤ) → Parts z
parts (pos n) = record { up = n; down = 0; is = above n }
parts (negsuc n) = record { up = 0; down = suc n; is = below n }

-- two differences, added
pub pairs : (x y z w : ℤ) → (x -ℤ y) +ℤ (z -ℤ w) ≡ (x +ℤ z) -ℤ (y +ℤ w)
pairs x y z w = rw ((parts x).is, (parts y).is, (parts z).is, (parts w).is) (simp (sum, turned) (same _ _ _ _ (omega arith)))

-- a multiple tells which number it is of
pub times_cancel : (x y : ℤ) (m : ℕ) → 0 < m → x *ℤ pos m ≡ y *ℤ pos m → x ≡ y
times_cancel x y m l e =
    let p = parts x in
    let q = parts y in
    p.is
    ∙ same p.up p.down q.up q.down
    (eq_of_mul-eq-mul_right m l (p.up + q.down) (q.up + p.down)
    (omega (arith, apart (p.up * m) (p.down * m) (q.up * m) (q.down * m) (sym (times p.up p.down m) ∙ (rw (p.is, q.is) at e) ∙ times q.up q.down m))))
    ∙ sym q.is

-- ---- the same of `less`, which is open

-- two that are the same
pub less_same : (a b c d : ℕ) → a + d ≡ c + b → less a b ≡ less c d
unfolding ◌⊖◌
less_same a b c d e = same a b c d e

-- a difference
pub less_minus : (a b c d : ℕ) → less a b -ℤ less c d ≡ less (a + d) (b + c)
unfolding ◌⊖◌
less_minus a b c d = ap (λ (x : ℤ). less a b +ℤ x) (turned c d) ∙ less_plus a b d c

-- a multiple
pub less_times : (a b t : ℕ) → less a b *ℤ pos t ≡ less (a * t) (b * t)
unfolding ◌⊖◌
less_times a b t = times a b t

-- minus a number
pub less_turned : (z : ℤ) (a b : ℕ) → z ≡ less a b → neg_ℤ z ≡ less b a
unfolding ◌⊖◌
less_turned z a b e = ap neg_ℤ e ∙ turned a b

-- a less x - y
pub left_over : (a x y c d : ℕ) → a + y + d ≡ c + x → pos a -ℤ less x y ≡ less c d
left_over a x y c d e =
    ap (λ (z : ℤ). z -ℤ less x y) (sym (+ℤ_idr (pos a))) ∙ less_minus a 0 x y ∙ less_same (a + y) (0 + x) c d (omega arith)
