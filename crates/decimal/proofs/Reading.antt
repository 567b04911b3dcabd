-- The number that digits make, and the digits that a number has, where they stand in a text. Assumes nothing.
use Prim.Native.Nat.{ℕ, zero, suc, ◌+◌, ◌-◌, ◌/◌, ◌%◌, ◌^◌, ◌≤◌, ◌<◌}
use mathlib.Core.Path.{◌≡◌, sym, ap, ap₂, ◌∙◌}
use mathlib.Core.List.{List, [], ◌∷◌, ◌++◌}
use mathlib.Core.Bool.{true, false, true≢false}
use mathlib.Core.Logic.{⊎_elim}
use native.Mathlib.Omega.{arith}
use native.Mathlib.Nat.{add-zero, div-one, le_refl}
use native.Mathlib.Numerals.{add-one}
use borrow.Author.Tests.{leb-true, le-leb}
use lib.Dec.{leb}
use lib.ListN.{length, length-append, get_or-eq_default}
use Rattle.ground.specs.Bytes.{byte_at, part}
use Rattle.sections.proofs.Search.{lt_or_ge}
use Rattle.ground.proofs.Every.{every, all}
use Rattle.ground.proofs.Part.{part_none}
use Rattle.decimal.specs.Decimal.{digit_text, decimal_of, last_digits}
use Rattle.decimal.specs.Standing.{is_digit, Stands}
use Rattle.decimal.specs.Inner.Digits.{value_from, Digits, Run}
use Rattle.decimal.proofs.Standing.{part_last, stands_first, stands_rest, stands_byte, stands_within}
use Rattle.decimal.proofs.Spelling.{by_tens, one_digit, more_digits, last_length, drop_place}

-- ---- a digit

pub digit_bounds : (b : ℕ) → is_digit b ≡ true → (48 ≤ b) × (b ≤ 57)
digit_bounds b e =
    let t = every (leb 48 b ∷ leb b 57 ∷ []) e in
    (leb-true 48 b t.0, leb-true b 57 t.1.0)

pub digit_is : (x : ℕ) → x < 10 → is_digit (48 + x) ≡ true
digit_is x h = all (leb 48 (48 + x) ∷ leb (48 + x) 57 ∷ []) (le-leb 48 (48 + x) (omega arith), (le-leb (48 + x) 57 (omega arith), tt))

-- a byte that is not 0 lies in the text
pub byte_within : (s : List ℕ) (k : ℕ) → (byte_at s k ≡ 0 → ⊥) → k < length s
byte_within s k h = ⊎_elim (λ l. l) (λ l. absurd (h (get_or-eq_default s 0 l))) (lt_or_ge k (length s))

pub digit_within : (s : List ℕ) (k : ℕ) → is_digit (byte_at s k) ≡ true → k < length s
digit_within s k h = byte_within s k (λ e. omega (arith, digit_bounds (byte_at s k) h))

-- ---- digits that stand in a text

module _ (s : List ℕ) (k : ℕ) where
  pub digits_less : (n : ℕ) → Digits s k (suc n) → Digits s k n
  digits_less n d = record { within = omega (arith, d.within); each = λ i h. d.each i (omega arith) }

  pub digits_none : k ≤ length s → Digits s k 0
  digits_none h = record { within = omega arith; each = λ i l. absurd (omega arith) }

  pub digits_more : (n : ℕ) → Digits s k n → k + n < length s → is_digit (byte_at s (k + n)) ≡ true → Digits s k (suc n)
  digits_more n d h e =
      record {
        within = omega arith;
        each = λ i l. ⊎_elim (λ g. d.each i g) (λ g. let q : n ≡ i = omega arith in rw (← q) e) (lt_or_ge i n);
      }

  -- the last digit, and what is left above it
  module _ (v n : ℕ) (d : Digits s k (suc n)) where
    last_bounds : (48 ≤ byte_at s (k + n)) × (byte_at s (k + n) ≤ 57)
    last_bounds = digit_bounds (byte_at s (k + n)) (d.each n (omega arith))

    last_digit : 48 + value_from v s k (suc n) % 10 ≡ byte_at s (k + n)
    unfolding value_from
    last_digit = let b = last_bounds in omega arith

    pub value_less : value_from v s k (suc n) / 10 ≡ value_from v s k n
    unfolding value_from
    value_less = let b = last_bounds in omega arith

    pub last_stands : part s k (suc n) ≡ part s k n ++ digit_text (value_from v s k (suc n) % 10)
    last_stands = rw last_digit (part_last s k n (omega (arith, d.within)))

  -- what stands after v is the last digits of the value, and v is what is above them
  pub last_there : (v n : ℕ) → Digits s k n → part s k n ≡ last_digits n (value_from v s k n)
  unfolding last_digits
  last_there v zero d = part_none s k
  last_there v (suc n) d =
      last_stands v n d
      ∙ ap (λ (l : List ℕ). l ++ digit_text (value_from v s k (suc n) % 10))
      (last_there v n (digits_less n d) ∙ ap (last_digits n) (sym (value_less v n d)))

  pub value_above : (v n : ℕ) → Digits s k n → value_from v s k n / 10 ^ n ≡ v
  unfolding value_from
  value_above v zero d = div-one v
  value_above v (suc n) d =
      drop_place (value_from v s k (suc n)) n ∙ ap (λ (x : ℕ). x / 10 ^ n) (value_less v n d) ∙ value_above v n (digits_less n d)

  -- the value only grows
  pub value_grows : (v n m : ℕ) → n ≤ m → value_from v s k n ≤ value_from v s k m
  unfolding value_from
  value_grows v n zero h = let e : n ≡ 0 = omega arith in rw e (omega arith)
  value_grows v n (suc m) h =
      ⊎_elim (λ (g : n < suc m). omega (arith, value_grows v n m (omega arith)))
      (λ (g : suc m ≤ n). let e : n ≡ suc m = omega arith in rw e (le_refl (value_from v s k (suc m))))
      (lt_or_ge n (suc m))

  -- digits that do not start with a spare 0 spell their value
  first_grows : (n : ℕ) → Digits s k (suc n) → (byte_at s k ≡ 48 → ⊥) → 1 ≤ value_from 0 s k 1
  unfolding value_from
  first_grows n d f =
      let b = digit_bounds (byte_at s k) (rw add-zero at (d.each 0 (omega arith))) in
      rw add-zero (⊎_elim (λ g. omega arith) (λ g. absurd (f (omega arith))) (lt_or_ge 48 (byte_at s k)))

  whole_small : Digits s k 1 → value_from 0 s k 1 < 10
  unfolding value_from
  whole_small d = let b = digit_bounds (byte_at s (k + 0)) (d.each 0 (omega arith)) in omega arith

  pub whole_there : (n : ℕ) → Digits s k (suc n) → (1 ≤ n → byte_at s k ≡ 48 → ⊥) → part s k (suc n) ≡ decimal_of (value_from 0 s k (suc n))
  whole_there zero d f =
      let h = whole_small d in
      let e : value_from 0 s k 1 % 10 ≡ value_from 0 s k 1 = omega arith in
      last_stands 0 0 d ∙ ap₂ ◌++◌ (part_none s k) (ap digit_text e) ∙ sym (one_digit (value_from 0 s k 1) h)
  whole_there (suc n) d f =
      let v = value_from 0 s k (suc (suc n)) in
      let e = value_less 0 (suc n) d in
      let h : 10 ≤ v = omega (arith, first_grows (suc n) d (f (omega arith)), value_grows 0 1 (suc n) (omega arith)) in
      last_stands 0 (suc n) d
      ∙ ap (λ (l : List ℕ). l ++ digit_text (v % 10)) (whole_there n (digits_less (suc n) d) (λ g. f (omega arith)) ∙ ap decimal_of (sym e))
      ∙ sym (more_digits v h)

-- ---- a spelling that stands in a text

-- n digits that make x, the first of them no spare 0
pub record Spelt (s : List ℕ) (k n x : ℕ) : Type 0 where
  pub digits : Digits s k n
  pub value : value_from 0 s k n ≡ x
  pub lead : 1 ≤ x → byte_at s k ≡ 48 → ⊥

module _ (s : List ℕ) (k : ℕ) where
  -- one digit more
  module _ (v x n : ℕ) (d : Digits s k n) (e : value_from v s k n ≡ x / 10) (p : Stands (digit_text (x % 10)) s (k + n)) where
    here : byte_at s (k + n) ≡ 48 + x % 10
    here = stands_byte (48 + x % 10) p

    pub next_digits : Digits s k (suc n)
    next_digits = digits_more s k n d (omega (arith, stands_within (digit_text (x % 10)) (omega arith) p)) (rw here (digit_is (x % 10) (omega arith)))

    pub next_value : value_from v s k (suc n) ≡ x
    unfolding value_from
    next_value = rw (e, here) (omega arith)

  one_back : (x : ℕ) → x < 10 → Stands (digit_text x) s k → Spelt s k 1 x
  unfolding value_from
  one_back x h p =
      let l = stands_within (digit_text x) (omega arith) p in
      let e : x % 10 ≡ x = omega arith in
      let z : 0 ≡ x / 10 = omega arith in
      let q : Stands (digit_text (x % 10)) s (k + 0) = rw (add-zero, e) p in
      let d = digits_none s k (omega arith) in
      record {
        digits = next_digits 0 x 0 d z q;
        value = next_value 0 x 0 d z q;
        lead = λ g b. omega (arith, stands_byte (48 + x) p);
      }

  pub whole_back : (x : ℕ) → Stands (decimal_of x) s k → Spelt s k (length (decimal_of x)) x
  whole_back =
      by_tens (λ x. Stands (decimal_of x) s k → Spelt s k (length (decimal_of x)) x)
      (λ x h p. rw (one_digit x h) (one_back x h (rw (one_digit x h) at p)))
      (λ x h f p.
      let q : Stands (decimal_of (x / 10) ++ digit_text (x % 10)) s k = rw (more_digits x h) at p in
      let m = f (stands_first (decimal_of (x / 10)) (digit_text (x % 10)) q) in
      let r = stands_rest (decimal_of (x / 10)) (digit_text (x % 10)) q in
      rw (more_digits x h, length-append, add-one)
      (record {
        digits = next_digits 0 x (length (decimal_of (x / 10))) m.digits m.value r;
        value = next_value 0 x (length (decimal_of (x / 10))) m.digits m.value r;
        lead = λ l. m.lead (omega arith);
      }))

  pub last_back : (n x : ℕ) → k ≤ length s → Stands (last_digits n x) s k → Digits s k n × (value_from (x / 10 ^ n) s k n ≡ x)
  unfolding last_digits value_from
  last_back zero x h p = (digits_none s k h, div-one x)
  last_back (suc n) x h p =
      let m = last_back n (x / 10) h (stands_first (last_digits n (x / 10)) (digit_text (x % 10)) p) in
      let r : Stands (digit_text (x % 10)) s (k + n) = rw (last_length n (x / 10)) at (stands_rest (last_digits n (x / 10)) (digit_text (x % 10)) p) in
      let e : value_from (x / 10 ^ suc n) s k n ≡ x / 10 = rw (drop_place x n) m.1 in
      (next_digits (x / 10 ^ suc n) x n m.0 e r, next_value (x / 10 ^ suc n) x n m.0 e r)

-- ---- the run of digits at a place

module _ {s : List ℕ} {k e : ℕ} (r : Run s k e) where
  pub run_digits : Digits s k (e - k)
  run_digits =
      let a = r.start in
      let b = r.within in
      record { within = omega arith; each = λ i h. r.each (k + i) (omega arith) (omega arith) }

  -- it ends where digits end
  pub run_end : (n : ℕ) → Digits s k n → is_digit (byte_at s (k + n)) ≡ false → e ≡ k + n
  run_end n d z =
      ⊎_elim (λ h. let a = r.start in let q : k + (e - k) ≡ e = omega arith in absurd (true≢false (sym (rw q at (d.each (e - k) (omega arith))) ∙ r.stop)))
      (λ h. ⊎_elim (λ g. absurd (true≢false (sym (r.each (k + n) (omega arith) g) ∙ z))) (λ g. omega arith) (lt_or_ge (k + n) e))
      (lt_or_ge e (k + n))
