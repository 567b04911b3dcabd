-- The spelling of a number, digit by digit: what holds below 10, and of x where it holds of x / 10, holds of every number. Assumes nothing.
use Prim.Native.Nat.{ℕ, zero, suc, max, ◌+◌, ◌*◌, ◌/◌, ◌%◌, ◌^◌, ◌≤◌, ◌<◌}
use mathlib.Core.Path.{◌≡◌, refl, sym, ap, ◌∙◌}
use mathlib.Core.List.{List, ◌∷◌, ◌++◌}
use mathlib.Core.Logic.{⊎_elim}
use native.Mathlib.Omega.{arith}
use native.Mathlib.Nat.{le_refl, pow-suc, pow-succ', one-le-pow, pow-le-pow_right, div-div-eq-div-mul, div-one, div-le_self, div-lt_iff_lt-mul}
use native.Mathlib.Numerals.{add-one}
use borrow.Author.Tests.{lt-ltb, le-ltb}
use lib.ListN.{length, length-append}
use Rattle.sections.proofs.Search.{lt_or_ge}
use Rattle.decimal.specs.Decimal.{digit_text, decimal_within, decimal_of, last_digits}

module _ (P : ℕ → Type 0) (one : (x : ℕ) → x < 10 → P x) (more : (x : ℕ) → 10 ≤ x → P (x / 10) → P x) where
  tens : (n x : ℕ) → x ≤ n → P x
  tens zero x h = one x (omega arith)
  tens (suc n) x h = ⊎_elim (λ l. one x l) (λ g. more x g (tens n (x / 10) (omega arith))) (lt_or_ge x 10)

  pub by_tens : (x : ℕ) → P x
  by_tens x = tens x x (le_refl x)

-- any n that is at least x will do
enough : (m n x : ℕ) → x ≤ m → x ≤ n → decimal_within m x ≡ decimal_within n x
unfolding decimal_within
enough zero zero x h g = refl
enough zero (suc n) x h g = rw (lt-ltb x 10 (omega arith))
enough (suc m) zero x h g = rw (lt-ltb x 10 (omega arith))
enough (suc m) (suc n) x h g =
    ⊎_elim (λ l. rw (lt-ltb x 10 l))
    (λ l. rw (le-ltb x 10 l) (ap (λ (a : List ℕ). a ++ digit_text (x % 10)) (enough m n (x / 10) (omega arith) (omega arith))))
    (lt_or_ge x 10)

pub one_digit : (x : ℕ) → x < 10 → decimal_of x ≡ digit_text x
unfolding decimal_of decimal_within
one_digit zero h = refl
one_digit (suc x) h = rw (lt-ltb (suc x) 10 h)

pub more_digits : (x : ℕ) → 10 ≤ x → decimal_of x ≡ decimal_of (x / 10) ++ digit_text (x % 10)
unfolding decimal_of decimal_within
more_digits zero h = absurd (omega arith)
more_digits (suc x) h =
    rw (le-ltb (suc x) 10 h)
    (ap (λ (a : List ℕ). a ++ digit_text (suc x % 10)) (enough x (suc x / 10) (suc x / 10) (omega arith) (le_refl (suc x / 10))))

-- ---- how many digits

pub some_digit : (x : ℕ) → 1 ≤ length (decimal_of x)
some_digit =
    by_tens (λ x. 1 ≤ length (decimal_of x))
    (λ x h. rw (one_digit x h) (omega arith))
    (λ x h p. rw (more_digits x h, length-append) (omega arith))

tenth_below : (x n : ℕ) → x < 10 ^ suc (suc n) → x / 10 < 10 ^ suc n
tenth_below x n h = (div-lt_iff_lt-mul {k = 10} {x = x} {y = 10 ^ suc n} (omega arith)).1 (rw pow-suc at h)

-- a number below 10 ^ (n + 1) has at most n + 1
pub few_digits : (n x : ℕ) → x < 10 ^ suc n → length (decimal_of x) ≤ suc n
few_digits zero x h = rw (one_digit x (omega (arith, rw pow-suc at h))) (omega arith)
few_digits (suc n) x h =
    ⊎_elim (λ l. rw (one_digit x l) (omega arith))
    (λ l. rw (more_digits x l, length-append) (omega (arith, few_digits n (x / 10) (tenth_below x n h))))
    (lt_or_ge x 10)

-- one more than x / 10 has
tenth : (x : ℕ) → 10 ≤ x → length (decimal_of x) ≡ length (decimal_of (x / 10)) + 1
tenth x h = rw (more_digits x h, length-append) refl

-- a number below 10 ^ n has no more than n
no_more : (n : ℕ) → 1 ≤ n → (x : ℕ) → x < 10 ^ n → length (decimal_of x) ≤ n
no_more zero l x h = absurd (omega arith)
no_more (suc n) l x h = few_digits n x h

-- a number from 10 ^ n on has more than n
many_digits : (n x : ℕ) → 10 ^ n ≤ x → suc n ≤ length (decimal_of x)
many_digits zero x h = some_digit x
many_digits (suc n) x h =
    let g : 10 ^ n * 10 ≤ x = rw pow-suc at h in
    omega (arith, tenth x (omega (arith, one-le-pow n 10 (omega arith))), many_digits n (x / 10) (omega arith))

-- one more than the greatest power of 10 that x reaches; 0 counts as 1
pub digits_by_power : (x y n : ℕ) → y ≡ max x 1 → 10 ^ n ≤ y → y < 10 * 10 ^ n → n + 1 ≡ length (decimal_of x)
digits_by_power x y zero e h g = omega (arith, some_digit x, few_digits 0 x (rw pow-suc (omega arith)))
digits_by_power x y (suc n) e h g =
    let reached : 10 ≤ y = omega (arith, rw pow-suc at h, one-le-pow n 10 (omega arith)) in
    let same : y ≡ x = omega arith in
    omega (arith, many_digits (suc n) x (rw same at h), few_digits (suc n) x (rw pow-suc (omega arith)))

-- a loop that counts digits: x reaches the powers of 10 below limit, of which there are n with 1
pub record Reached (x limit n : ℕ) : Type 0 where
  pub power : limit ≡ 10 ^ n
  pub some : 1 ≤ n
  pub within : n ≤ 19
  pub digits : n ≤ length (decimal_of x)

pub reached_none : (x : ℕ) → Reached x 10 1
reached_none x = record { power = refl; some = omega arith; within = omega arith; digits = some_digit x }

module _ {x limit n : ℕ} (r : Reached x limit n) where
  more_than : limit ≤ x → suc n ≤ length (decimal_of x)
  more_than h = many_digits n x (rw r.power at h)

  pub reached_more : limit ≤ x → (n ≡ 19 → ⊥) → Reached x (limit * 10) (n + 1)
  reached_more h d =
      record { power = rw (add-one, pow-suc, r.power); some = omega arith; within = omega (arith, r.within); digits = omega (arith, more_than h) }

  pub reached_fits : limit ≤ x → (n ≡ 19 → ⊥) → limit * 10 < 2 ^ 64
  reached_fits h d = omega (arith, r.power, pow-le-pow_right {n = 10} (omega arith) {i = n} {j = 18} (omega (arith, r.within)))

  pub reached_last : limit ≤ x → n ≡ 19 → x < 2 ^ 64 → 20 ≡ length (decimal_of x)
  reached_last h e f = omega (arith, more_than h, few_digits 19 x (omega arith))

  pub reached_all : x < limit → n ≡ length (decimal_of x)
  reached_all h = omega (arith, r.digits, no_more n r.some x (rw r.power at h))

-- ---- the last digits

pub last_length : (n x : ℕ) → length (last_digits n x) ≡ n
unfolding last_digits
last_length zero x = refl
last_length (suc n) x = rw (length-append, last_length n (x / 10)) (omega arith)

-- one place more is dropped, below or above
pub drop_place : (x n : ℕ) → x / 10 ^ suc n ≡ x / 10 / 10 ^ n
drop_place x n = rw pow-succ' (sym (div-div-eq-div-mul x 10 (10 ^ n)))

pub drop_last : (x n : ℕ) → x / 10 ^ (n + 1) ≡ x / 10 ^ n / 10
drop_last x n = rw (add-one, pow-suc) (sym (div-div-eq-div-mul x (10 ^ n) 10))

-- the digits of x are its last digits, as many as it has
pub all_last : (x : ℕ) → decimal_of x ≡ last_digits (length (decimal_of x)) x
unfolding last_digits
all_last =
    by_tens (λ x. decimal_of x ≡ last_digits (length (decimal_of x)) x)
    (λ x h. let e : x % 10 ≡ x = omega arith in rw (one_digit x h, e))
    (λ x h p. rw (more_digits x h, length-append, add-one, ← p))

-- one digit more stands in front of the last ones
pub last_front : (n x : ℕ) → last_digits (suc n) x ≡ (48 + x / 10 ^ n % 10) ∷ last_digits n x
unfolding last_digits
last_front zero x = rw div-one
last_front (suc n) x = ap (λ (a : List ℕ). a ++ digit_text (x % 10)) (last_front n (x / 10)) ∙ rw (drop_place x n)

-- ---- how many digits are left without the last d

pub some_left : (d x : ℕ) → d < length (decimal_of x) → length (decimal_of (x / 10 ^ d)) + d ≡ length (decimal_of x)
some_left zero x h = rw div-one (omega arith)
some_left (suc d) x h =
    ⊎_elim (λ (l : x < 10). absurd (omega (arith, ap length (one_digit x l))))
    (λ (l : 10 ≤ x). rw (drop_place x d) (omega (arith, tenth x l, some_left d (x / 10) (omega (arith, tenth x l)))))
    (lt_or_ge x 10)

pub none_left : (d x : ℕ) → length (decimal_of x) ≤ d → length (decimal_of (x / 10 ^ d)) ≡ 1
none_left zero x h = absurd (omega (arith, some_digit x))
none_left (suc d) x h =
    ⊎_elim
    (λ l. let z : x / 10 / 10 ^ d ≡ 0 = omega (arith, div-le_self (x / 10) (10 ^ d)) in rw (drop_place x d, z, one_digit 0 (omega arith)) refl)
    (λ l. rw (drop_place x d) (none_left d (x / 10) (omega (arith, tenth x l))))
    (lt_or_ge x 10)
