-- What the functions that write digits need to know. Digits are written from the last to the first. Assumes nothing.
use Prim.Native.Nat.{ℕ, zero, suc, max, ◌+◌, ◌-◌, ◌*◌, ◌/◌, ◌%◌, ◌^◌, ◌≤◌, ◌<◌}
use mathlib.Core.Path.{◌≡◌, refl, sym, ap, ◌∙◌}
use mathlib.Core.List.{List, [], ◌∷◌, ◌++◌, append-nil}
use mathlib.Core.Logic.{⊎_elim}
use native.Mathlib.Omega.{arith}
use native.Mathlib.Nat.{add-zero, div-one, div-le_self, mod-eq_of_lt}
use native.Mathlib.Numerals.{add-one}
use lib.ListN.{length, length-append}
use Rattle.ground.specs.Le.{le16}
use Rattle.ground.specs.Put.{put}
use Rattle.ground.specs.Inner.Put.{Wrote}
use Rattle.ground.proofs.Put.{put_length, put_ahead}
use Rattle.sections.proofs.Search.{lt_or_ge}
use Rattle.decimal.specs.Decimal.{decimal_of, last_digits, point_text, number_text}
use Rattle.decimal.specs.Inner.Filled.{Filled}
use Rattle.decimal.proofs.Spelling.{drop_last, last_front, last_length, all_last, few_digits, some_left, none_left}

-- ---- digits, from the last to the first

-- a number of 16 bits by its two bytes
pub wrote_pair : (l : List ℕ) (k x : ℕ) {v : ℕ} {b : List ℕ} → x < 100 → v ≡ 12_336 + x / 10 + x % 10 * 256 → b ≡ put l k (le16 v) → b ≡ put l k ((48 + x / 10) ∷ (48 + x % 10) ∷ [])
unfolding le16
wrote_pair l k x {v} h e q =
    let low : v % 256 ≡ 48 + x / 10 = omega (arith, e) in
    let upper : v / 256 ≡ 48 + x % 10 = omega (arith, e, low) in
    let byte : 48 + x % 10 < 256 = omega arith in
    q ∙ rw (low, upper, mod-eq_of_lt byte) refl

pub filled_length : {l : List ℕ} {k n x : ℕ} {b : List ℕ} {rest : ℕ} → Filled l k n x b rest → length b ≡ length l
filled_length {l} {k} {n} {x} f = ap length f.bytes ∙ put_length l k (last_digits n x)

-- one digit more in front
front : {l : List ℕ} {k n x : ℕ} {a b : List ℕ} {rest d : ℕ} → Filled l (k + 1) n x a rest → d ≡ 48 + rest % 10 → b ≡ put a k (d ∷ []) → Filled l k (n + 1) x b (rest / 10)
front {l} {k} {n} {x} {a} {b} {rest} {d} f e q =
    let there : d ≡ 48 + x / 10 ^ n % 10 = rw f.left at e in
    let more : (48 + x / 10 ^ n % 10) ∷ last_digits n x ≡ last_digits (n + 1) x = rw add-one (sym (last_front n x)) in
    record {
      bytes = q ∙ rw (f.bytes, there) (put_ahead l k ((48 + x / 10 ^ n % 10) ∷ []) (last_digits n x)) ∙ ap (put l k) more;
      left = rw f.left (sym (drop_last x n));
    }

-- the loop: the digits from place k + free on stand in b, n - free of them, and rest is what is left of x above them
pub record Behind (l : List ℕ) (k n x free : ℕ) (b : List ℕ) (rest : ℕ) : Type 0 where
  pub within : free ≤ n
  pub filled : Filled l (k + free) (n - free) x b rest

module _ {l : List ℕ} {k n x : ℕ} where
  pub behind_none : Behind l k n x n l x
  unfolding last_digits put
  behind_none =
      let z : n - n ≡ 0 = omega arith in
      record { within = omega arith; filled = rw z (record { bytes = refl; left = sym (div-one x) }) }

  pub behind_pair : {free rest : ℕ} {a b : List ℕ} → Behind l k n x free a rest → 2 ≤ free → b ≡ put a (k + (free - 2)) ((48 + rest % 100 / 10) ∷ (48 + rest % 100 % 10) ∷ []) → Behind l k n x (free - 2) b (rest / 100)
  behind_pair {free} {rest} {a} {b} f h q =
      let i = k + (free - 2) in
      let place : k + free ≡ i + 1 + 1 = omega arith in
      let g : Filled l (i + 1 + 1) (n - free) x a rest = rw place at f.filled in
      let c = put a (i + 1) ((48 + rest % 10) ∷ []) in
      let one : Filled l (i + 1) (n - free + 1) x c (rest / 10) = front g refl refl in
      let low : 48 + rest % 100 % 10 ≡ 48 + rest % 10 = omega arith in
      let high : 48 + rest % 100 / 10 ≡ 48 + rest / 10 % 10 = omega arith in
      let two : b ≡ put c i ((48 + rest % 100 / 10) ∷ []) = q ∙ rw low (sym (put_ahead a i ((48 + rest % 100 / 10) ∷ []) ((48 + rest % 10) ∷ []))) in
      let all = front one high two in
      let count : n - free + 1 + 1 ≡ n - (free - 2) = omega (arith, f.within) in
      let last : rest / 10 / 10 ≡ rest / 100 = omega arith in
      record { within = omega (arith, f.within); filled = rw (count, last) at all }

  pub behind_one : {free rest d : ℕ} {a b : List ℕ} → Behind l k n x free a rest → free ≡ 1 → d ≡ 48 + rest % 10 → b ≡ put a k (d ∷ []) → Filled l k n x b (rest / 10)
  behind_one {free} {rest} {d} {a} {b} f h e q =
      let g : Filled l (k + 1) (n - 1) x a rest = rw h at f.filled in
      let count : n - 1 + 1 ≡ n = omega (arith, f.within) in
      rw count at (front g e q)

  pub behind_all : {free rest : ℕ} {b : List ℕ} → Behind l k n x free b rest → free < 2 → (free ≡ 1 → ⊥) → Filled l k n x b rest
  behind_all {free} {rest} {b} f h z = of free refl
    where
      of : (m : ℕ) → free ≡ m → Filled l k n x b rest
      of zero e = let count : n - 0 ≡ n = omega arith in rw (count, add-zero) at (rw e at f.filled)
      of (suc zero) e = absurd (z e)
      of (suc (suc m)) e = absurd (omega arith)

-- as many last digits as x has are its digits
pub wrote_whole : (x : ℕ) {l b : List ℕ} {k n rest : ℕ} → n ≡ length (decimal_of x) → Filled l k n x b rest → Wrote l k (decimal_of x) b (k + n)
wrote_whole x q f = record { bytes = rw all_last (rw q at f.bytes); next = rw q }

-- ---- a number with decimals

pub number_plain : (x d : ℕ) → d ≡ 0 → number_text x d ≡ decimal_of x
unfolding number_text point_text
number_plain x d e = rw (e, div-one) (append-nil (decimal_of x))

number_pointed : (x d : ℕ) → (d ≡ 0 → ⊥) → number_text x d ≡ decimal_of (x / 10 ^ d) ++ ((46 ∷ []) ++ last_digits d x)
unfolding number_text point_text
number_pointed x zero h = absurd (h refl)
number_pointed x (suc d) h = refl

point_short : (d x : ℕ) → length (point_text d x) ≤ 1 + d
unfolding point_text
point_short zero x = omega arith
point_short (suc d) x = omega (arith, last_length (suc d) x)

-- a number that has at most n + 1 digits before the point
pub number_short : (n x d : ℕ) → x / 10 ^ d < 10 ^ suc n → length (number_text x d) ≤ n + 2 + d
unfolding number_text
number_short n x d h = rw length-append (omega (arith, few_digits n (x / 10 ^ d) h, point_short d x))

module _ (x d : ℕ) where
  pub plain_room : (l : List ℕ) (k : ℕ) → d ≡ 0 → k + length (number_text x d) ≤ length l → k + length (decimal_of x) ≤ length l
  plain_room l k z h = rw (number_plain x d z) at h

  pub plain_end : {l b : List ℕ} {k m : ℕ} → d ≡ 0 → Wrote l k (decimal_of x) b m → Wrote l k (number_text x d) b m
  plain_end z w = rw (number_plain x d z) w

  pub wide : (d ≡ 0 → ⊥) → d < length (number_text x d)
  wide z = rw (number_pointed x d z, length-append) (omega (arith, last_length d x))

-- how many digits it has in all
module _ (x d n : ℕ) (e : n ≡ length (decimal_of x)) where
  pub places_are : {r : ℕ} → r ≡ max n (d + 1) → r ≡ length (decimal_of (x / 10 ^ d)) + d
  places_are q =
      ⊎_elim
      (λ (h : d < n). omega (arith, some_left d x (rw e at h)))
      (λ (h : n ≤ d). omega (arith, none_left d x (rw e at h)))
      (lt_or_ge d n)

-- the bytes behind the point, the point, and the bytes before it
three : (l : List ℕ) (k : ℕ) (ws rs : List ℕ) {a b c : List ℕ} → a ≡ put l (k + length ws + 1) rs → b ≡ put a (k + length ws) (46 ∷ []) → c ≡ put b k ws → c ≡ put l k (ws ++ ((46 ∷ []) ++ rs))
three l k ws rs p q r =
    r ∙ rw (q, p, put_ahead l (k + length ws) (46 ∷ []) rs) (put_ahead l k ws ((46 ∷ []) ++ rs))

module _ (x d n : ℕ) (e : n ≡ length (decimal_of (x / 10 ^ d)) + d) where
  pub places_short : x < 2 ^ 64 → n ≤ 20 + d
  places_short h = omega (arith, e, few_digits 19 (x / 10 ^ d) (omega (arith, div-le_self x (10 ^ d))))

  pub plain_length : d ≡ 0 → n ≡ length (number_text x d)
  plain_length z = rw (number_plain x d z) (e ∙ rw (z, div-one, add-zero) refl)

  module _ (z : d ≡ 0 → ⊥) where
    pub long : length (number_text x d) ≡ n + 1
    long = rw (number_pointed x d z, length-append) (omega (arith, e, last_length d x))

    -- the writer's three steps: the decimals, the point, what is before it
    before : (k : ℕ) → k + (n - d) - k ≡ length (decimal_of (x / 10 ^ d))
    before k = omega (arith, e)

    pub last_room : (l : List ℕ) (k : ℕ) → k + length (number_text x d) ≤ length l → k + (n - d) + 1 + d ≤ length l
    last_room l k h = omega (arith, e, long)

    pub point_room : {l a : List ℕ} {m rest : ℕ} (k : ℕ) → k + length (number_text x d) ≤ length l → Filled l m d x a rest → k + (n - d) + 1 ≤ length a
    point_room k h f = omega (arith, e, long, filled_length f)

    pub first_room : {l a b : List ℕ} {m rest : ℕ} (k j : ℕ) (ys : List ℕ) → k + length (number_text x d) ≤ length l → Filled l m d x a rest → b ≡ put a j ys → k + (k + (n - d) - k) ≤ length b
    first_room {a = a} k j ys h f q = omega (arith, e, long, filled_length f, ap length q, put_length a j ys)

    pub pointed_end : {l a b c : List ℕ} {rest none : ℕ} (k : ℕ) → Filled l (k + (n - d) + 1) d x a rest → b ≡ put a (k + (n - d)) (46 ∷ []) → Filled b k (k + (n - d) - k) rest c none → Wrote l k (number_text x d) c (k + (n - d) + 1 + d)
    pointed_end {l} {a} {b} {c} {rest} k f q g =
        let ws = decimal_of (x / 10 ^ d) in
        let w : n - d ≡ length ws = omega (arith, e) in
        let digits : last_digits (k + (n - d) - k) rest ≡ ws = rw (before k, f.left) (sym (all_last (x / 10 ^ d))) in
        record {
          bytes = rw (number_pointed x d z) (three l k ws (last_digits d x) (rw w at f.bytes) (rw w at q) (rw digits at g.bytes));
          next = omega (arith, e, long);
        }
