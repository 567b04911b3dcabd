-- A text has one number at a place: the digits before the point, and the point with the decimals behind them, have one reading. Assumes nothing.
use Prim.Native.Nat.{ℕ, zero, suc, ◌+◌, ◌-◌, ◌/◌, ◌^◌, ◌≤◌, ◌<◌}
use mathlib.Core.Path.{◌≡◌, refl, sym, ap, ◌∙◌}
use mathlib.Core.List.{List, [], ◌∷◌, ◌++◌}
use mathlib.Core.Bool.{true, false}
use mathlib.Core.Logic.{⊎_elim}
use native.Mathlib.Omega.{arith}
use native.Mathlib.Nat.{div-one, div-le_self, eq-zero-or-pos}
use lib.ListN.{length, length-append}
use Rattle.sections.proofs.Search.{lt_or_ge}
use Rattle.ground.specs.Bytes.{byte_at}
use Rattle.decimal.specs.Decimal.{decimal_of, last_digits, point_text, number_text}
use Rattle.decimal.specs.Standing.{is_digit, Stands, Number, Decides}
use Rattle.decimal.specs.Inner.Digits.{value_from, Digits, Run, Whole, Fraction}
use Rattle.decimal.proofs.Standing.{decides_one, stands_none, stands_two, stands_first, stands_rest, stands_byte, stands_within}
use Rattle.decimal.proofs.Spelling.{one_digit, last_length}
use Rattle.decimal.proofs.Reading.{whole_back, last_back, run_end, Spelt}

-- ---- whole numbers

module _ {s : List ℕ} {k limit : ℕ} where
  -- the run of digits is the number's
  module _ {e x f : ℕ} (r : Run s k e) (w : Whole s k limit x f) where
    spelt : Spelt s k (length (decimal_of x)) x
    spelt = whole_back s k x w.field.stands

    pub whole_ends : e ≡ f
    whole_ends =
        let o = w.field.ends in
        run_end r (length (decimal_of x)) spelt.digits (rw o at w.field.stop) ∙ sym o

    long : e - k ≡ length (decimal_of x)
    long = omega (arith, whole_ends, w.field.ends)

    pub whole_value : x ≡ value_from 0 s k (e - k)
    whole_value = rw long (sym spelt.value)

    pub whole_lead : byte_at s k ≡ 48 → 1 < e - k → ⊥
    whole_lead z h =
        ⊎_elim (λ l. omega (arith, long, ap length (one_digit x l))) (λ l. spelt.lead (omega arith) z) (lt_or_ge x 10)

  pub whole_run : {x e : ℕ} → Whole s k limit x e → Run s k e
  whole_run {x} {e} w =
      let n = length (decimal_of x) in
      let g = (whole_back s k x w.field.stands).digits in
      let o = w.field.ends in
      record {
        start = omega arith;
        within = omega (arith, g.within);
        each = λ i a b. let j : k + (i - k) ≡ i = omega arith in rw j at (g.each (i - k) (omega arith));
        stop = w.field.stop;
      }

  pub whole_once : {x y e f : ℕ} → Whole s k limit x e → Whole s k limit y f → (x ≡ y) × (e ≡ f)
  whole_once w u = let r = whole_run w in (whole_value r w ∙ sym (whole_value r u), whole_ends r u)

-- ---- the point and the decimals

pub point_text_lem : (d x : ℕ) → (d ≡ 0 → ⊥) → point_text d x ≡ (46 ∷ []) ++ last_digits d x
unfolding point_text
point_text_lem zero x h = absurd (h refl)
point_text_lem (suc d) x h = refl

point_none : (d x : ℕ) → d ≡ 0 → point_text d x ≡ []
unfolding point_text
point_none d x e = rw e

module _ {s : List ℕ} {k v d limit : ℕ} where
  -- no decimals
  module _ (z : d ≡ 0) where
    pub fraction_plain : v ≤ limit → is_digit (byte_at s k) ≡ false → Decides (Fraction s k v d limit) true v k
    fraction_plain h q =
        let e = point_none d v z in
        decides_one
        (record {
          small = h;
          above = rw z (div-one v);
          field = rw e (record { stands = stands_none; ends = omega arith; stop = q });
        })

    plain_facts : {x e : ℕ} → Fraction s k v d limit x e → (x ≡ v) × (e ≡ k)
    plain_facts {x} {e} f =
        (sym (div-one x) ∙ rw z at f.above, omega (arith, f.field.ends, ap length (point_none d x z)))

  -- some
  module _ (z : d ≡ 0 → ⊥) where
    module _ {x e : ℕ} (f : Fraction s k v d limit x e) where
      shown : Stands ((46 ∷ []) ++ last_digits d x) s k
      shown = rw (point_text_lem d x z) at f.field.stands

      pub fraction_point : byte_at s k ≡ 46
      fraction_point = stands_byte 46 (stands_first (46 ∷ []) (last_digits d x) shown)

      lies : k + 1 ≤ length s
      lies = stands_within (46 ∷ []) (omega arith) (stands_first (46 ∷ []) (last_digits d x) shown)

      pub fraction_digits : Digits s (k + 1) d × (value_from (x / 10 ^ d) s (k + 1) d ≡ x)
      fraction_digits = last_back s (k + 1) d x lies (stands_rest (46 ∷ []) (last_digits d x) shown)

      pub fraction_value : x ≡ value_from v s (k + 1) d
      fraction_value = sym (rw f.above at fraction_digits.1)

      pub fraction_end : e ≡ k + 1 + d
      fraction_end = omega (arith, f.field.ends, ap length (point_text_lem d x z), last_length d x)

      pub fraction_count : {j : ℕ} → Run s (k + 1) j → j - (k + 1) ≡ d
      fraction_count r =
          omega (arith, run_end r d fraction_digits.0 (rw fraction_end at f.field.stop))

  pub fraction_once : {x y e f : ℕ} → Fraction s k v d limit x e → Fraction s k v d limit y f → (x ≡ y) × (e ≡ f)
  fraction_once {x} {y} {e} {f} a b =
      ⊎_elim
      (λ z. let p = plain_facts z a in let q = plain_facts z b in (p.0 ∙ sym q.0, p.1 ∙ sym q.1))
      (λ l.
      let z : d ≡ 0 → ⊥ = λ o. omega arith in
      (fraction_value z a ∙ sym (fraction_value z b), fraction_end z a ∙ sym (fraction_end z b)))
      (eq-zero-or-pos d)

-- ---- the whole number and the rest of it

module _ {s : List ℕ} {k d limit : ℕ} where
  pub number_join : {v m x e : ℕ} → Whole s k limit v m → Fraction s m v d limit x e → Number s k d limit x e
  unfolding number_text
  number_join {v} {m} {x} {e} w f =
      let a = f.above in
      let o = w.field.ends in
      let p : Stands (decimal_of (x / 10 ^ d)) s k = rw a w.field.stands in
      let q : Stands (point_text d x) s (k + length (decimal_of (x / 10 ^ d))) = rw (a, ← o) f.field.stands in
      record {
        small = f.small;
        field = record { stands = stands_two p q; ends = rw (length-append, a) (omega (arith, f.field.ends)); stop = f.field.stop };
      }

  module _ {x e : ℕ} (n : Number s k d limit x e) where
    abbrev middle : ℕ
    middle = k + length (decimal_of (x / 10 ^ d))

    rest : Stands (point_text d x) s middle
    unfolding number_text
    rest = stands_rest (decimal_of (x / 10 ^ d)) (point_text d x) n.field.stands

    ends : e ≡ middle + length (point_text d x)
    unfolding number_text
    ends = omega (arith, n.field.ends, length-append (decimal_of (x / 10 ^ d)) (point_text d x))

    pub number_rest : Fraction s middle (x / 10 ^ d) d limit x e
    number_rest = record { small = n.small; above = refl; field = record { stands = rest; ends = ends; stop = n.field.stop } }

    middle_stop : is_digit (byte_at s middle) ≡ false
    middle_stop =
        ⊎_elim (λ z. let o : e ≡ middle = (plain_facts z number_rest).1 in rw o at n.field.stop)
        (λ l. ap is_digit (fraction_point (λ z. omega arith) number_rest))
        (eq-zero-or-pos d)

    pub number_whole : Whole s k limit (x / 10 ^ d) middle
    unfolding number_text
    number_whole =
        record {
          small = omega (arith, n.small, div-le_self x (10 ^ d));
          field = record { stands = stands_first (decimal_of (x / 10 ^ d)) (point_text d x) n.field.stands; ends = refl; stop = middle_stop };
        }

  -- a text has one number at a place
  pub number_once : {x y e f : ℕ} → Number s k d limit x e → Number s k d limit y f → (x ≡ y) × (e ≡ f)
  number_once a b = let p = whole_once (number_whole a) (number_whole b) in fraction_once (number_rest a) (rw (← p.1, ← p.0) at (number_rest b))
