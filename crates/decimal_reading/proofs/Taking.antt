-- What the functions that read digits need to know: the loops over digits, and each way in which a reader ends. Assumes nothing.
use Prim.Native.Nat.{ℕ, zero, suc, ◌+◌, ◌-◌, ◌*◌, ◌/◌, ◌^◌, ◌≤◌, ◌<◌}
use mathlib.Core.Path.{◌≡◌, refl, sym, ap, ◌∙◌}
use mathlib.Core.List.{List, [], ◌∷◌}
use mathlib.Core.Bool.{Bool, true, false, true≢false}
use mathlib.Core.Logic.{⊎_elim}
use native.Mathlib.Omega.{arith}
use native.Mathlib.Nat.{add-zero, pow-suc, pow-le-pow_right, mul_assoc, mul-le-mul, le_refl, eq-zero-or-pos}
use native.Mathlib.Numerals.{add-one}
use borrow.Author.Tests.{eqb-true, eqb-false, ltb-true, leb-true, eq-eqb, lt-ltb, le-leb}
use lib.Dec.{eqb, ltb, leb}
use lib.ListN.{length}
use lib.Pow.{pow-add}
use Rattle.sections.proofs.Search.{lt_or_ge}
use Rattle.ground.specs.Bytes.{byte_at}
use Rattle.ground.proofs.Every.{every, all}
use Rattle.decimal.specs.Decimal.{decimal_of, point_text}
use Rattle.decimal.specs.Standing.{is_digit, Stands, Number}
use Rattle.decimal.specs.Inner.Digits.{value_from, Digits, Run, Whole, Fraction}
use Rattle.decimal.proofs.Spelling.{some_digit, few_digits}
use Rattle.decimal.proofs.Standing.{stands_part, stands_two, stands_one}
use Rattle.decimal.proofs.Reading.{byte_within, digit_bounds, last_there, value_above, whole_there, whole_back, run_digits}
use Rattle.decimal.proofs.Once.{point_text_lem, whole_value, whole_lead, whole_run, whole_once, fraction_plain, fraction_digits, fraction_point, fraction_value, fraction_end, fraction_once, number_join, number_whole, number_rest}
use Rattle.decimal_reading.specs.Reads.{Reads}
use Rattle.decimal_reading.proofs.Answered.{reads_same}
use Rattle.decimal_reading.specs.Inner.Taking.{spare_zero, far, SumAt, Front, PlacesAt, Rest, NumberThen}
use Rattle.std.specs.Prelude.{Option}
use Rattle.std.specs.Bool.{then_some}
use Rattle.decimal_reading.specs.declared.Taken.{Taken}

-- what a test says, of the byte itself
pub seen : (s : List ℕ) (e b : ℕ) {t u : Bool} → b ≡ byte_at s e → t ≡ is_digit b → t ≡ u → is_digit (byte_at s e) ≡ u
seen s e b p q z = rw p at (sym q ∙ z)

-- ---- the loops over digits

-- n digits that were passed, behind those of v: they make x
pub record Passed (s : List ℕ) (k v n x : ℕ) : Type 0 where
  pub each : (i : ℕ) → i < n → is_digit (byte_at s (k + i)) ≡ true
  pub value : x ≡ value_from v s k n

-- digits behind those of v make less than v + 1 with as many zeros
below : (s : List ℕ) (k v n : ℕ) → ((i : ℕ) → i < n → is_digit (byte_at s (k + i)) ≡ true) → value_from v s k n + 1 ≤ (v + 1) * 10 ^ n
unfolding value_from
below s k v zero h = omega arith
below s k v (suc n) h =
    let b = digit_bounds (byte_at s (k + n)) (h n (omega arith)) in
    let e : (v + 1) * 10 ^ suc n ≡ (v + 1) * 10 ^ n * 10 = rw pow-suc (sym (mul_assoc (v + 1) (10 ^ n) 10)) in
    omega (arith, e, b, below s k v n (λ i l. h i (omega arith)))

module _ {s : List ℕ} {k v : ℕ} where
  pub passed_none : Passed s k v 0 v
  unfolding value_from
  passed_none = record { each = λ i h. absurd (omega arith); value = refl }

  pub passed_more : {n x b y : ℕ} → Passed s k v n x → b ≡ byte_at s (k + n) → is_digit (byte_at s (k + n)) ≡ true → y ≡ 10 * x + (b - 48) → Passed s k v (n + 1) y
  unfolding value_from
  passed_more {n} {x} {b} {y} p e t q =
      record {
        each = λ i h. ⊎_elim (λ j. p.each i j) (λ j. let o : n ≡ i = omega arith in rw (← o) t) (lt_or_ge i n);
        value = rw add-one (q ∙ rw (p.value, e) refl);
      }

  pub passed_fits : {n x : ℕ} (d : ℕ) → Passed s k v n x → n ≤ d → (v + 1) * 10 ^ d ≤ far → x < far
  passed_fits {n} {x} d p h l =
      omega (arith, p.value, below s k v n p.each, mul-le-mul (le_refl (v + 1)) (pow-le-pow_right {n = 10} (omega arith) h), l)

-- the sum of at most 18 digits
pub sum_fits : {s : List ℕ} {k n x : ℕ} → Passed s k 0 n x → n ≤ 18 → x < far
sum_fits p h = passed_fits 18 p h (omega arith)

-- ---- the digits before the point: where take_digits ends

-- digits that end here are not passed
not_passed : {s : List ℕ} {k v n x e : ℕ} → Passed s k v n x → Run s k e → e - k < n → ⊥
not_passed {s} {k} {v} {n} {x} {e} p r h =
    let j : k + (e - k) ≡ e = omega (arith, r.start) in
    true≢false (sym (rw j at (p.each (e - k) h)) ∙ r.stop)

module _ {s : List ℕ} {k room n x : ℕ} (p : Passed s k 0 n x) where
  pub sum_found : is_digit (byte_at s (k + n)) ≡ false → n < room → n < length s - k → SumAt s k room x (k + n)
  sum_found z h l =
      let o : k + n - k ≡ n = omega arith in
      record {
        run =
            record {
              start = omega arith;
              within = omega arith;
              each = λ i a b. let j : k + (i - k) ≡ i = omega arith in rw j at (p.each (i - k) (omega arith));
              stop = z;
            };
        few = omega arith;
        inside = omega arith;
        value = rw o p.value;
      }

  pub sum_ended : length s - k ≤ n → (y e : ℕ) → SumAt s k room y e → ⊥
  sum_ended h y e c = not_passed p c.run (omega (arith, c.inside, c.run.start))

  pub sum_long : room ≤ n → (y e : ℕ) → SumAt s k room y e → ⊥
  sum_long h y e c = not_passed p c.run (omega (arith, c.few, c.run.start))

-- ---- the whole number: where take_whole ends

no_spare : (first n : ℕ) {t : Bool} → t ≡ spare_zero first n → t ≡ false → first ≡ 48 → 1 < n → ⊥
no_spare first n e z q h = true≢false (sym (all (eqb first 48 ∷ ltb 1 n ∷ []) (eq-eqb first 48 q, (lt-ltb 1 n h, tt))) ∙ sym e ∙ z)

spare : (first n : ℕ) {t : Bool} → t ≡ spare_zero first n → t ≡ true → (first ≡ 48) × (1 < n)
spare first n e z =
    let t = every (eqb first 48 ∷ ltb 1 n ∷ []) (sym e ∙ z) in
    (eqb-true first 48 t.0, ltb-true 1 n t.1.0)

-- digits with no spare 0 are the number that they make
whole_here : {s : List ℕ} {k limit e : ℕ} → Run s k e → k < e → (byte_at s k ≡ 48 → 1 < e - k → ⊥) → value_from 0 s k (e - k) ≤ limit → Whole s k limit (value_from 0 s k (e - k)) e
whole_here {s} {k} {limit} {e} r some lead h = of (e - k) refl
  where
    of : (n : ℕ) → e - k ≡ n → Whole s k limit (value_from 0 s k (e - k)) e
    of zero q = absurd (omega arith)
    of (suc n) q =
        let g : Digits s k (suc n) = rw q at (run_digits r) in
        let v = value_from 0 s k (suc n) in
        let p = stands_part s k (suc n) g.within (whole_there s k n g (λ o z. lead z (omega arith))) in
        let o : e ≡ k + length (decimal_of v) = omega (arith, p.0, r.start) in
        rw q (record { small = rw q at h; field = record { stands = p.1; ends = o; stop = r.stop } })

module _ {s : List ℕ} {k room : ℕ} where
  front_sum : {y f : ℕ} → Front s k room y f → SumAt s k room y f
  front_sum w = let r = whole_run w.whole in record { run = r; few = w.few; inside = w.inside; value = whole_value r w.whole }

  front_first : {y f : ℕ} → Front s k room y f → is_digit (byte_at s k) ≡ true
  front_first {y} w =
      rw add-zero at ((whole_back s k y w.whole.field.stands).digits.each 0 (omega (arith, some_digit y)))

  pub whole_nothing : ((y e : ℕ) → SumAt s k room y e → ⊥) → (y f : ℕ) → Front s k room y f → ⊥
  whole_nothing c y f w = c y f (front_sum w)

  module _ {x e : ℕ} (c : SumAt s k room x e) where
    pub whole_empty : e ≤ k → (y f : ℕ) → Front s k room y f → ⊥
    whole_empty h y f w =
        let o : e ≡ k = omega (arith, c.run.start) in
        true≢false (sym (front_first w) ∙ rw o at c.run.stop)

    pub whole_spare : {b : ℕ} {t : Bool} → b ≡ byte_at s k → t ≡ spare_zero b (e - k) → t ≡ true → (y f : ℕ) → Front s k room y f → ⊥
    whole_spare {b} o q z y f w = let p = spare b (e - k) q z in whole_lead c.run w.whole (sym o ∙ p.0) p.1

    pub whole_found : k < e → room ≤ 19 → {b : ℕ} {t : Bool} → b ≡ byte_at s k → t ≡ spare_zero b (e - k) → t ≡ false → Front s k room x e
    whole_found h l {b} o q z =
        let d = run_digits c.run in
        let small : x < far = sum_fits (record { each = d.each; value = c.value }) (omega (arith, c.few, c.run.start)) in
        let v = c.value in
        let low : value_from 0 s k (e - k) ≤ far = omega (arith, v, small) in
        record {
          whole = rw v (whole_here c.run h (λ a. no_spare b (e - k) q z (o ∙ a)) low);
          few = c.few;
          inside = c.inside;
        }

-- ---- the decimals: where take_places ends

module _ {s : List ℕ} {k v d : ℕ} (end : ℕ) where
  pub places_short : 0 < end → length s - k ≤ d → (x e : ℕ) → PlacesAt s k v d end x e → ⊥
  places_short l h x e c = omega (arith, byte_within s (k + d) (λ o. omega (arith, c.byte)))

  pub places_other : (n : ℕ) → n < d → is_digit (byte_at s (k + n)) ≡ false → (x e : ℕ) → PlacesAt s k v d end x e → ⊥
  places_other n h z x e c = true≢false (sym (c.digits.each n h) ∙ z)

  pub places_told : {n x b : ℕ} → Passed s k v n x → n ≤ d → d ≤ n → d < length s - k → b ≡ byte_at s (k + d) → Reads (PlacesAt s k v d end) (then_some (eqb b end) (record { value = x; next = k + d + 1 }))
  places_told {n} {x} {b} p h g l q = by (eqb b end) refl
    where
      same : n ≡ d
      same = omega arith

      by : (t : Bool) → eqb b end ≡ t → Reads (PlacesAt s k v d end) (then_some t (record { value = x; next = k + d + 1 }))
      by true o =
          record {
            digits = record { within = omega arith; each = rw same at p.each };
            byte = sym q ∙ eqb-true b end o;
            value = rw same at p.value;
            ends = refl;
          }
      by false o = λ y e c. eqb-false b end o (q ∙ c.byte)

-- ---- the point and the decimals: where take_rest ends

module _ (s : List ℕ) (k v d end : ℕ) where
  pub rest_plain : d ≡ 0 → v ≤ far → is_digit (byte_at s k) ≡ false → {b : ℕ} → b ≡ byte_at s k → Reads (Rest s k v d end) (then_some (eqb b end) (record { value = v; next = k + 1 }))
  rest_plain z h o {b} q = by (eqb b end) refl
    where
      here : Fraction s k v d far v k
      here = (fraction_plain z h o).found refl

      by : (t : Bool) → eqb b end ≡ t → Reads (Rest s k v d end) (then_some t (record { value = v; next = k + 1 }))
      by true i = record { body = k; fraction = here; byte = sym q ∙ eqb-true b end i; ends = refl }
      by false i = λ y e c. eqb-false b end i (q ∙ ap (byte_at s) (fraction_once here c.fraction).1 ∙ c.byte)

  module _ (z : d ≡ 0 → ⊥) where
    pub rest_no_point : {b : ℕ} → b ≡ byte_at s k → (b ≡ 46 → ⊥) → (x j : ℕ) → Rest s k v d end x j → ⊥
    rest_no_point e h x j c = h (e ∙ fraction_point z c.fraction)

    rest_found : byte_at s k ≡ 46 → is_digit end ≡ false → (v + 1) * 10 ^ d ≤ far → {x e : ℕ} → PlacesAt s (k + 1) v d end x e → Rest s k v d end x e
    rest_found b apart l {x} {e} c =
        let g = c.digits in
        let w = value_from v s (k + 1) d in
        let p = stands_part s (k + 1) d g.within (last_there s (k + 1) v d g) in
        let o : k + 1 + d ≡ k + length (point_text d w) = rw (point_text_lem d w z) (omega (arith, p.0)) in
        let both : Stands (point_text d w) s k = rw (point_text_lem d w z) (stands_two (stands_one 46 (omega (arith, g.within)) b) p.1) in
        let small : w < far = passed_fits d (record { each = g.each; value = refl }) (le_refl d) l in
        rw c.value
        (record {
          body = k + 1 + d;
          fraction =
              record {
                small = omega arith;
                above = value_above s (k + 1) v d g;
                field = record { stands = both; ends = o; stop = rw c.byte apart };
              };
          byte = c.byte;
          ends = c.ends;
        })

    rest_places : {x e : ℕ} → Rest s k v d end x e → PlacesAt s (k + 1) v d end x e
    rest_places c =
        let o = fraction_end z c.fraction in
        record {
          digits = (fraction_digits z c.fraction).0;
          byte = rw o at c.byte;
          value = fraction_value z c.fraction;
          ends = omega (arith, o, c.ends);
        }

    pub rest_decided : {b : ℕ} → b ≡ byte_at s k → b ≡ 46 → is_digit end ≡ false → (v + 1) * 10 ^ d ≤ far → (r : Option Taken) → Reads (PlacesAt s (k + 1) v d end) r → Reads (Rest s k v d end) r
    rest_decided q h apart l = reads_same (λ x e. rest_found (sym q ∙ h) apart l) (λ x e. rest_places)

-- ---- the whole number and the rest of it: where take_number ends

-- before the decimals, there is room for them
pub front_room : (d : ℕ) → d ≤ 6 → {s : List ℕ} {k v m : ℕ} → Front s k (19 - d) v m → (v + 1) * 10 ^ d ≤ far
front_room d h {s} {k} {v} {m} w =
    let c = front_sum w in
    let n = m - k in
    let g = run_digits c.run in
    let few : n ≤ 18 - d = omega (arith, c.few, c.run.start) in
    let b : v + 1 ≤ (0 + 1) * 10 ^ n = rw c.value (below s k 0 n g.each) in
    let a : v + 1 ≤ 10 ^ (18 - d) = omega (arith, b, pow-le-pow_right {n = 10} (omega arith) few) in
    let q : 18 - d + d ≡ 18 = omega arith in
    omega (arith, mul-le-mul a (le_refl (10 ^ d)), pow-add 10 (18 - d) d, ap (λ (i : ℕ). 10 ^ i) q)

module _ {s : List ℕ} {k d limit end : ℕ} (h : d ≤ 6) (small : limit < 1_000_000_000_000) (some : 0 < end) where
  module _ {y f : ℕ} (n : NumberThen s k d limit end y f) where
    widened : Number s k d far y n.body
    widened = record { small = omega (arith, n.number.small); field = n.number.field }

    then_rest : Rest s (k + length (decimal_of (y / 10 ^ d))) (y / 10 ^ d) d end y f
    then_rest = record { body = n.body; fraction = number_rest widened; byte = n.byte; ends = n.ends }

    then_inside : k + length (decimal_of (y / 10 ^ d)) < length s
    then_inside =
        ⊎_elim
        (λ z. byte_within s _ (λ o. omega (arith, sym o ∙ ap (byte_at s) (fraction_once ((fraction_plain z (number_whole widened).small (number_whole widened).field.stop).found refl) (number_rest widened)).1 ∙ n.byte)))
        (λ l. byte_within s _ (λ o. omega (arith, sym o ∙ fraction_point (λ z. omega arith) (number_rest widened))))
        (eq-zero-or-pos d)

    then_front : Front s k (19 - d) (y / 10 ^ d) (k + length (decimal_of (y / 10 ^ d)))
    then_front =
        record {
          whole = number_whole widened;
          few = omega (arith, few_digits 11 (y / 10 ^ d) (omega (arith, (number_whole n.number).small)));
          inside = then_inside;
        }

  pub number_none : ((x e : ℕ) → Front s k (19 - d) x e → ⊥) → (y f : ℕ) → NumberThen s k d limit end y f → ⊥
  number_none c y f n = c _ _ (then_front n)

  module _ {v m : ℕ} (w : Front s k (19 - d) v m) where
    rest_of : {y f : ℕ} → NumberThen s k d limit end y f → Rest s m v d end y f
    rest_of n = let p = whole_once (then_front n).whole w.whole in rw (p.1, p.0) at (then_rest n)

    pub number_bare : ((x e : ℕ) → Rest s m v d end x e → ⊥) → (y f : ℕ) → NumberThen s k d limit end y f → ⊥
    number_bare c y f n = c y f (rest_of n)

    pub number_decided : (x : Taken) → Rest s m v d end x.value x.next → Reads (NumberThen s k d limit end) (then_some (leb x.value limit) x)
    number_decided x r = by (leb x.value limit) refl
      where
        by : (u : Bool) → leb x.value limit ≡ u → Reads (NumberThen s k d limit end) (then_some u x)
        by true l =
            let n = number_join w.whole r.fraction in
            record { body = r.body; number = record { small = leb-true x.value limit l; field = n.field }; byte = r.byte; ends = r.ends }
        by false l = λ y f n.
            let o = (fraction_once r.fraction (rest_of n).fraction).0 in
            true≢false (sym (le-leb x.value limit (omega (arith, o, n.number.small))) ∙ l)
