-- Numbers with a sign: written by the sign and the size, and one at a place of a text. Assumes nothing.
use Prim.Native.Nat.{ℕ, zero, suc, ◌+◌, ◌/◌, ◌^◌, ◌≤◌, ◌<◌}
use mathlib.Core.Path.{◌≡◌, refl, sym, ap, ◌∙◌}
use mathlib.Core.List.{List, [], ◌∷◌, ◌++◌}
use mathlib.Core.Bool.{Bool, true, false, true≢false, false≢true}
use native.Mathlib.Omega.{arith}
use native.Mathlib.Nat.{add-zero}
use mir.Syntax.{w64}
use mir.Val.{SFits, to_z, of_z}
use mir.Facts.{to_z-of_z}
use lib.IntN.{ℤ, pos, negsuc, nat_abs}
use lib.ListN.{length}
use Rattle.ground.specs.Bytes.{byte_at}
use Rattle.ground.specs.Inner.Put.{Wrote}
use Rattle.numbers.specs.Sign.{signed, negative}
use Rattle.ground.proofs.Put.{wrote_more, wrote_length}
use Rattle.decimal.specs.Decimal.{number_text, signed_text}
use Rattle.decimal.specs.Standing.{is_digit, Number, Signed}
use Rattle.decimal.proofs.Standing.{stands_first, stands_rest, stands_two, stands_one, stands_byte}
use Rattle.decimal.proofs.Spelling.{some_digit}
use Rattle.decimal.proofs.Writing.{number_short}
use Rattle.decimal.proofs.Reading.{byte_within, digit_bounds, whole_back}
use Rattle.decimal.proofs.Once.{number_once, number_whole}

-- ---- written

module _ (d : ℕ) where
  pub minus_text : (z : ℤ) → negative z ≡ true → signed_text z d ≡ (45 ∷ []) ++ number_text (nat_abs z) d
  unfolding signed_text
  minus_text (pos n) h = absurd (false≢true h)
  minus_text (negsuc n) h = refl

  pub plus_text : (z : ℤ) → negative z ≡ false → signed_text z d ≡ number_text (nat_abs z) d
  unfolding signed_text
  plus_text (pos n) h = refl
  plus_text (negsuc n) h = absurd (true≢false h)

-- one that has at most n + 1 digits before the point
pub signed_short : (n : ℕ) (z : ℤ) (d : ℕ) → nat_abs z / 10 ^ d < 10 ^ suc n → length (signed_text z d) ≤ n + 3 + d
unfolding signed_text
signed_short n (pos m) d h = omega (arith, number_short n m d h)
signed_short n (negsuc m) d h = omega (arith, number_short n (suc m) d h)

-- n and t are the size and the sign of the number whose bits are those of z
module _ (z : ℤ) (d : ℕ) (f : SFits w64 z) {n : ℕ} {t : Bool} (size : n ≡ nat_abs (to_z w64 (of_z w64 z))) (sign : t ≡ negative (to_z w64 (of_z w64 z))) where
  e : n ≡ nat_abs z
  e = size ∙ ap nat_abs (to_z-of_z f)

  q : t ≡ negative z
  q = sign ∙ ap negative (to_z-of_z f)

  pub minus_length : t ≡ true → length (signed_text z d) ≡ length (number_text n d) + 1
  minus_length h = rw (minus_text d z (sym q ∙ h), e) (omega arith)

  pub plus_length : t ≡ false → length (signed_text z d) ≡ length (number_text n d)
  plus_length h = rw (plus_text d z (sym q ∙ h), e)

  pub plus_room : (l : List ℕ) (k : ℕ) → t ≡ false → k + length (signed_text z d) ≤ length l → k + length (number_text n d) ≤ length l
  plus_room l k h r = rw (plus_text d z (sym q ∙ h), ← e) at r

  pub plus_end : {l b : List ℕ} {k m : ℕ} → t ≡ false → Wrote l k (number_text n d) b m → Wrote l k (signed_text z d) b m
  plus_end h w = rw (plus_text d z (sym q ∙ h), ← e) w

  pub minus_byte : (l : List ℕ) (k : ℕ) → t ≡ true → k + length (signed_text z d) ≤ length l → k + 1 ≤ length l
  minus_byte l k h r = omega (arith, ap length (minus_text d z (sym q ∙ h)))

  pub minus_room : {l a : List ℕ} {k m : ℕ} → t ≡ true → k + length (signed_text z d) ≤ length l → Wrote l k (45 ∷ []) a m → m + length (number_text n d) ≤ length a
  minus_room h r w = rw e (omega (arith, ap length (minus_text d z (sym q ∙ h)), wrote_length w))

  pub minus_end : {l a b : List ℕ} {k m j : ℕ} → t ≡ true → Wrote l k (45 ∷ []) a m → Wrote a m (number_text n d) b j → Wrote l k (signed_text z d) b j
  minus_end h w u = rw (minus_text d z (sym q ∙ h), ← e) (wrote_more w u)

-- ---- standing in a text

-- a number starts with a digit
pub number_first : {s : List ℕ} {k d limit x e : ℕ} → Number s k d limit x e → is_digit (byte_at s k) ≡ true
number_first {s} {k} {d} {limit} {x} n =
    let w = number_whole n in
    rw add-zero at ((whole_back s k (x / 10 ^ d) w.field.stands).digits.each 0 (omega (arith, some_digit (x / 10 ^ d))))

module _ {s : List ℕ} {k d limit : ℕ} where
  pub signed_plus : {x e : ℕ} → Number s k d limit x e → Signed s k d limit (pos x) e
  unfolding signed_text
  signed_plus n = record { small = n.small; field = n.field }

  pub signed_minus : {x e : ℕ} → byte_at s k ≡ 45 → (x ≡ 0 → ⊥) → Number s (k + 1) d limit x e → Signed s k d limit (signed true x) e
  unfolding signed_text
  signed_minus {x = zero} b z n = absurd (z refl)
  signed_minus {x = suc x} b z n =
      let h = byte_within s k (λ o. omega arith) in
      let f = n.field in
      record {
        small = n.small;
        field = record { stands = stands_two (stands_one 45 h b) f.stands; ends = omega (arith, f.ends); stop = f.stop };
      }

  -- what stands there by its sign
  pub of_plus : {n e : ℕ} → Signed s k d limit (pos n) e → Number s k d limit n e
  unfolding signed_text
  of_plus w = record { small = w.small; field = w.field }

  pub of_minus : {n e : ℕ} → Signed s k d limit (negsuc n) e → (byte_at s k ≡ 45) × Number s (k + 1) d limit (suc n) e
  unfolding signed_text
  of_minus {n} w =
      let p = w.field.stands in
      let xs = number_text (suc n) d in (
        stands_byte 45 (stands_first (45 ∷ []) xs p),
        record { small = w.small; field = record { stands = stands_rest (45 ∷ []) xs p; ends = omega (arith, w.field.ends); stop = w.field.stop } },
      )

  pub no_minus : {n e : ℕ} → byte_at s k ≡ 45 → Signed s k d limit (pos n) e → ⊥
  no_minus b w = omega (arith, digit_bounds (byte_at s k) (number_first (of_plus w)))

  -- a text has one number with a sign at a place
  pub signed_once : {y z : ℤ} {e f : ℕ} → Signed s k d limit y e → Signed s k d limit z f → (y ≡ z) × (e ≡ f)
  signed_once {y = pos m} {z = pos n} a b = let p = number_once (of_plus a) (of_plus b) in (ap pos p.0, p.1)
  signed_once {y = pos m} {z = negsuc n} a b = absurd (no_minus (of_minus b).0 a)
  signed_once {y = negsuc m} {z = pos n} a b = absurd (no_minus (of_minus a).0 b)
  signed_once {y = negsuc m} {z = negsuc n} a b =
      let p = number_once (of_minus a).1 (of_minus b).1 in
      (ap negsuc (omega (arith, p.0)), p.1)
