-- What every column's form keeps to, and how a field is put together. Assumes nothing.
use Prim.Native.Nat.{ℕ, suc, ◌+◌, ◌^◌, ◌≤◌, ◌<◌}
use mathlib.Core.Path.{◌≡◌, refl, ap, ◌∙◌}
use mathlib.Core.List.{List, [], ◌∷◌}
use native.Mathlib.Omega.{arith}
use lib.ListN.{length, length-append}
use Rattle.ground.specs.Inner.Each.{Each}
use Rattle.ground.specs.Inner.Put.{Wrote}
use Rattle.ground.proofs.Each.{each_at}
use Rattle.ground.proofs.Put.{wrote_more, wrote_length}
use Rattle.numbers.specs.Sign.{signed}
use Rattle.decimal.specs.Decimal.{signed_text}
use Rattle.columns.specs.Columns.{number_form, charge_form, columns, form_of, spelled_by, spelled, end_of, cell_text, InRange}
use Rattle.columns.specs.Inner.Cells.{Among, word_in}
use Rattle.columns.specs.declared.Form.{Form}
use Rattle.columns.specs.declared.Words.{Words}
use Rattle.columns.specs.declared.Words.TheVariants.{Service, PaymentType, Region}
use Rattle.std.specs.Prelude.{Option, None, Some}

-- ---- each column

pub record FormFine (f : Form) : Type 0 where
  pub small : f.most ≤ 1_000_000_000_000
  pub few : f.decimals ≤ 6
  pub among : (x : ℕ) → x ≤ f.most → Among f.words x

number_fine : (d l m : ℕ) → d ≤ 6 → m ≤ 1_000_000_000_000 → FormFine (number_form d l m)
number_fine d l m h k = record { small = k; few = h; among = λ x p. tt }

charge_fine : (d m : ℕ) → d ≤ 6 → m ≤ 1_000_000_000_000 → FormFine (charge_form d m)
charge_fine d m h k = record { small = k; few = h; among = λ x p. tt }

each_column : Each FormFine columns
each_column = (
  number_fine 0 0 _ (omega arith) (omega arith),
  (
    number_fine 0 1 _ (omega arith) (omega arith),
    (
      number_fine 0 1 _ (omega arith) (omega arith),
      (
        number_fine 0 1 _ (omega arith) (omega arith),
        (
          record { small = omega arith; few = omega arith; among = λ x p. tt },
          (
            number_fine 0 1 _ (omega arith) (omega arith),
            (
              record { small = omega arith; few = omega arith; among = λ x p. omega arith },
              (
                record { small = omega arith; few = omega arith; among = λ x p. omega arith },
                (
                  number_fine 6 1 _ (omega arith) (omega arith),
                  (
                    number_fine 4 0 _ (omega arith) (omega arith),
                    (
                      charge_fine 4 _ (omega arith) (omega arith),
                      (
                        charge_fine 3 _ (omega arith) (omega arith),
                        (
                          charge_fine 3 _ (omega arith) (omega arith),
                          (
                            number_fine 3 0 _ (omega arith) (omega arith),
                            (
                              number_fine 3 0 _ (omega arith) (omega arith),
                              (
                                charge_fine 4 _ (omega arith) (omega arith),
                                (charge_fine 4 _ (omega arith) (omega arith), tt),
                              ),
                            ),
                          ),
                        ),
                      ),
                    ),
                  ),
                ),
              ),
            ),
          ),
        ),
      ),
    ),
  ),
)

pub form_fine : (column : ℕ) → column < 17 → FormFine (form_of column)
form_fine column h = each_at FormFine columns each_column (number_form 0 0 0) column h

-- what its writer asks
pub fits : (column x : ℕ) → column < 17 → InRange column x → (x < 2 ^ 63) × Among (form_of column).words x
fits column x h r = let f = form_fine column h in (omega (arith, f.small, r.1), f.among x r.1)

-- ---- the last of many: a number that is at least n and not n is more

pub next : (n j : ℕ) → n ≤ j → (j ≡ n → ⊥) → suc n ≤ j
next n j h d = omega arith

-- ---- how a field is spelled

module _ (f : Form) (x : ℕ) where
  pub as_number : f.words ≡ None → spelled f x ≡ signed_text (signed f.charge x) f.decimals
  unfolding spelled
  as_number e = ap (λ (w : Option Words). spelled_by w f x) e

  pub as_word : {words : Words} → f.words ≡ Some words → spelled f x ≡ word_in (Some words) x
  unfolding spelled
  as_word {words} e = ap (λ (w : Option Words). spelled_by w f x) e ∙ by words
    where
      by : (w : Words) → spelled_by (Some w) f x ≡ word_in (Some w) x
      by Service = refl
      by PaymentType = refl
      by Region = refl

-- ---- a field and the byte behind it

module _ (column x : ℕ) {f : Form} (e : f ≡ form_of column) where
  pub room_spelled : (l : List ℕ) (k : ℕ) → k + length (cell_text column x) ≤ length l → k + length (spelled f x) ≤ length l
  unfolding cell_text
  room_spelled l k h = rw e (omega (arith, rw length-append at h))

  pub room_end : {l a : List ℕ} {k m : ℕ} → k + length (cell_text column x) ≤ length l → Wrote l k (spelled f x) a m → m + 1 ≤ length a
  unfolding cell_text
  room_end h w = let u = rw e at w in omega (arith, rw length-append at h, u.next, wrote_length u)

  pub wrote_cell : {l a b : List ℕ} {k m n t : ℕ} → Wrote l k (spelled f x) a m → t ≡ end_of column → Wrote a m (t ∷ []) b n → Wrote l k (cell_text column x) b n
  unfolding cell_text
  wrote_cell w q v = wrote_more (rw e at w) (rw q at v)

  pub cell_long : {n : ℕ} → n ≡ length (spelled f x) → n + 1 ≡ length (cell_text column x)
  unfolding cell_text
  cell_long h = rw length-append (rw (h, e))
