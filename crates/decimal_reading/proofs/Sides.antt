-- A number with a sign, where it stands with the byte behind it: what is read behind the sign is its size. A text has one at a place; so what is written
-- is read, and what is read is the spelling of its number. Assumes nothing.
use Prim.Native.Nat.{ℕ, zero, suc, ◌+◌, ◌-◌, ◌≤◌, ◌<◌}
use mathlib.Core.Path.{◌≡◌, refl, sym, ap, ◌∙◌}
use mathlib.Core.Bool.{Bool, beq, true, false, not, cond, ◌&&◌, true≢false, false≢true}
use mathlib.Core.List.{List, [], ◌∷◌}
use native.Mathlib.Omega.{arith}
use borrow.Author.Tests.{eq-eqb, ne_eqb, eqb-true}
use lib.Dec.{eqb}
use lib.IntN.{ℤ, nat_abs}
use lib.ListN.{length, length-append}
use Rattle.numbers.specs.Sign.{signed}
use Rattle.ground.specs.Bytes.{byte_at, part}
use Rattle.ground.specs.Inner.Put.{Wrote}
use Rattle.decimal.specs.Decimal.{signed_text}
use Rattle.decimal.specs.Standing.{is_digit, Number, Signed, Decides}
use Rattle.decimal.proofs.Standing.{stands_two, stands_first, stands_rest, stands_one, stands_byte, stands_put, decides_none, decides_one}
use Rattle.decimal.proofs.Reading.{byte_within}
use Rattle.decimal.proofs.Once.{number_once}
use Rattle.decimal.proofs.Signs.{signed_plus, signed_minus, of_plus, of_minus, no_minus, signed_once}
use Rattle.std.specs.Prelude.{Option, Some}
use Rattle.std.specs.Bool.{then_some}
use Rattle.std.proofs.lemmas.Bool.{and_parts}
use Rattle.decimal_reading.specs.Reads.{Reads}
use Rattle.decimal_reading.specs.Sided.{sided_text, SidedThen}
use Rattle.decimal_reading.specs.declared.Taken.{Taken}
use Rattle.decimal_reading.proofs.Answered.{reads_once}
use Rattle.decimal_reading.specs.Inner.Taking.{NumberThen, is_minus, is_sided}

-- ---- which side of 0

differ : (a b : Bool) → not (beq a b) ≡ true → b ≡ not a
differ true true e = absurd (false≢true e)
differ true false e = refl
differ false true e = refl
differ false false e = absurd (false≢true e)

pub size_of : (charge : Bool) (x : ℕ) → nat_abs (signed charge x) ≡ x
size_of true zero = refl
size_of true (suc x) = refl
size_of false x = refl

-- a minus lies in the text, so there is a place behind it
pub minus_within : (charge : Bool) (s : List ℕ) (k : ℕ) {t : Bool} → t ≡ is_minus charge s k → t ≡ true → k < length s
minus_within charge s k q h =
    let b = eqb-true (byte_at s k) 45 (and_parts charge (eqb (byte_at s k) 45) (sym q ∙ h)).1 in
    byte_within s k (λ o. omega arith)

module _ {s : List ℕ} {k d limit : ℕ} where
  of_signed : (charge : Bool) (x : ℕ) {b : ℕ} → Signed s k d limit (signed charge x) b → (t : Bool) → t ≡ is_minus charge s k → Number s (cond t (k + 1) k) d limit x b × (is_sided charge t x ≡ true)
  of_signed false x w t q = rw q (of_plus w, refl)
  of_signed true zero w t q = let z : t ≡ false = q ∙ ne_eqb (byte_at s k) 45 (λ o. no_minus o w) in rw z (of_plus w, refl)
  of_signed true (suc x) w t q =
      let m = of_minus w in
      let z : t ≡ true = q ∙ eq-eqb (byte_at s k) 45 m.0 in
      rw (z, ne_eqb (suc x) 0 (λ o. omega arith)) (m.1, refl)

  to_signed : (charge : Bool) (x : ℕ) {b : ℕ} (t : Bool) → t ≡ is_minus charge s k → Number s (cond t (k + 1) k) d limit x b → is_sided charge t x ≡ true → Signed s k d limit (signed charge x) b
  to_signed false x true q n h = absurd (true≢false q)
  to_signed false x false q n h = signed_plus n
  to_signed true x true q n h = signed_minus (eqb-true (byte_at s k) 45 (sym q)) (λ z. true≢false (sym (eq-eqb x 0 z) ∙ differ true (eqb x 0) h)) n
  to_signed true x false q n h = let z = eqb-true x 0 (differ false (eqb x 0) h) in rw z (signed_plus (rw z at n))

-- ---- a number and the byte behind it

module _ (charge : Bool) (d limit end : ℕ) (apart : is_digit end ≡ false) (s : List ℕ) (k : ℕ) where
  abbrev text : ℕ → List ℕ
  text x = signed_text (signed charge x) d

  abbrev There : ℤ → ℕ → Type 0
  There = Signed s k d limit

  record Inner (x e : ℕ) : Type 0 where
    there : There (signed charge x) (k + length (text x))
    byte : byte_at s (k + length (text x)) ≡ end
    ends : e ≡ k + length (text x) + 1

  inner : (x e : ℕ) → SidedThen charge d limit end s k x e → Inner x e
  inner x e t =
      let b = stands_byte end (stands_rest (text x) (end ∷ []) t.stands) in
      record {
        there =
            record {
              small = omega (arith, size_of charge x, t.fine);
              field = record { stands = stands_first (text x) (end ∷ []) t.stands; ends = refl; stop = rw b apart };
            };
        byte = b;
        ends = omega (arith, t.ends, length-append (text x) (end ∷ []));
      }

  module _ {t : Bool} (q : t ≡ is_minus charge s k) where
    abbrev Then : ℕ → ℕ → Type 0
    Then = NumberThen s (cond t (k + 1) k) d limit end

    into : (x e : ℕ) → SidedThen charge d limit end s k x e → Then x e × (is_sided charge t x ≡ true)
    into x e c =
        let i = inner x e c in
        let n = of_signed charge x i.there t q in
        (record { body = k + length (text x); number = n.0; byte = i.byte; ends = i.ends }, n.1)

    out : 0 < end → (x e : ℕ) → Then x e → is_sided charge t x ≡ true → SidedThen charge d limit end s k x e
    out l x e n h =
        let w = to_signed charge x t q n.number h in
        let a = w.field.ends in
        let here = stands_one {s = s} {k = n.body} end (byte_within s n.body (λ o. omega (arith, n.byte))) n.byte in
        record {
          fine = n.number.small;
          stands = stands_two w.field.stands (rw a at here);
          ends = rw length-append (omega (arith, a, n.ends));
        }

    -- what was read behind the sign says all of it
    pub sided_none : ((x e : ℕ) → Then x e → ⊥) → (x e : ℕ) → SidedThen charge d limit end s k x e → ⊥
    sided_none c x e w = c x e (into x e w).0

    pub sided_found : 0 < end → (n : Taken) → Then n.value n.next → {u : Bool} → u ≡ is_sided charge t n.value → Reads (SidedThen charge d limit end s k) (then_some u n)
    sided_found l n c {u} o = by u refl
      where
        by : (b : Bool) → u ≡ b → Reads (SidedThen charge d limit end s k) (then_some b n)
        by true j = out l n.value n.next c (sym o ∙ j)
        by false j = λ y m w.
            let r = into y m w in
            let z = (number_once c.number r.0.number).0 in
            false≢true (sym j ∙ o ∙ ap (is_sided charge t) z ∙ r.1)

    -- the two together, of a flag, a value and an end
    pub sided_decided : 0 < end → {g u : Bool} {x e : ℕ} → Decides Then g x e → u ≡ is_sided charge t x → Decides (SidedThen charge d limit end s k) (g && u) x e
    sided_decided l {g} {u} {x} {e} c o = by g refl u refl
      where
        by : (a : Bool) → g ≡ a → (b : Bool) → u ≡ b → Decides (SidedThen charge d limit end s k) (a && b) x e
        by true i true j = decides_one (out l x e (c.found i) (sym o ∙ j))
        by true i false j =
            decides_none x e
            (λ y m w.
            let r = into y m w in
            let z = (number_once (c.found i).number r.0.number).0 in
            false≢true (sym j ∙ o ∙ ap (is_sided charge t) z ∙ r.1))
        by false i b j = decides_none x e (sided_none (c.none i))

  -- a text has one at a place
  pub sided_once : (x y e g : ℕ) → SidedThen charge d limit end s k x e → SidedThen charge d limit end s k y g → (x ≡ y) × (e ≡ g)
  sided_once x y e g t u =
      let i = inner x e t in
      let j = inner y g u in
      let o = signed_once i.there j.there in
      (sym (size_of charge x) ∙ ap nat_abs o.0 ∙ size_of charge y, omega (arith, i.ends, j.ends, o.1))

-- ---- the two laws

module _ (charge : Bool) (d limit end : ℕ) (apart : is_digit end ≡ false) where
  -- written and read: the number comes back
  pub sided_written_and_read : (x : ℕ) → x ≤ limit → {l b : List ℕ} {k e : ℕ} → k + length (sided_text charge d end x) ≤ length l → Wrote l k (sided_text charge d end x) b e → {r : Option Taken} → Reads (SidedThen charge d limit end b k) r → r ≡ Some (record { value = x; next = e })
  sided_written_and_read x h {l} {b} {k} {e} room w {r} c =
      reads_once r c (sided_once charge d limit end apart b k) x e (record { fine = h; stands = rw w.bytes (stands_put l k (sided_text charge d end x) room); ends = w.next })

  -- read and written: what is read has exactly the bytes of its value
  pub sided_read_and_written : {s : List ℕ} {k : ℕ} (n : Taken) → Reads (SidedThen charge d limit end s k) (Some n) → part s k (n.next - k) ≡ sided_text charge d end n.value
  sided_read_and_written {s} {k} n f =
      let o : n.next - k ≡ length (sided_text charge d end n.value) = omega (arith, f.ends) in
      rw o f.stands.bytes
