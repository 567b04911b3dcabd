-- How wide each column is, and so how long a row can be. Assumes nothing.
use Prim.Native.Nat.{ℕ, zero, suc, ◌+◌, ◌/◌, ◌^◌, ◌≤◌, ◌<◌}
use mathlib.Core.Path.{◌≡◌, refl}
use mathlib.Core.Bool.{true}
use mathlib.Core.List.{List, [], ◌∷◌}
use native.Mathlib.Omega.{arith}
use native.Mathlib.Nat.{le_of_suc-le-suc, not-suc-le-zero}
use lib.IntN.{pos}
use lib.ListN.{length, get_or, length-append}
use Rattle.numbers.specs.Sign.{signed}
use Rattle.sections.specs.Total.{total}
use Rattle.ground.proofs.Each.{each_at}
use Rattle.market.specs.Words.{region_names, payment_types}
use Rattle.decimal.specs.Decimal.{signed_text}
use Rattle.decimal.proofs.Spelling.{few_digits}
use Rattle.decimal.proofs.Writing.{number_plain, number_short}
use Rattle.columns.specs.Columns.{number_form, columns, spelled, cell_text, InRange}
use Rattle.columns.specs.declared.Form.{Form}
use Rattle.nmas.specs.Rows.{fields_text}

-- ---- how wide a number is

plain_wide : (n x : ℕ) → x < 10 ^ suc n → length (signed_text (pos x) 0) ≤ suc n
unfolding signed_text
plain_wide n x h = rw (number_plain x 0 refl) (few_digits n x h)

number_wide : (n d x : ℕ) → x / 10 ^ d < 10 ^ suc n → length (signed_text (pos x) d) ≤ n + 2 + d
unfolding signed_text
number_wide n d x h = number_short n x d h

charge_wide : (n d x : ℕ) → x / 10 ^ d < 10 ^ suc n → length (signed_text (signed true x) d) ≤ n + 3 + d
unfolding signed_text
charge_wide n d zero h = omega (arith, number_short n 0 d h)
charge_wide n d (suc x) h = omega (arith, number_short n (suc x) d h)

-- ---- how wide each column is, with the byte behind it

abbrev widths : List ℕ
widths = 9 ∷ 3 ∷ 4 ∷ 11 ∷ 8 ∷ 11 ∷ 13 ∷ 5 ∷ 9 ∷ 13 ∷ 15 ∷ 11 ∷ 11 ∷ 10 ∷ 10 ∷ 14 ∷ 14 ∷ []

abbrev Wide : List Form → List ℕ → Type 0
Wide [] ws = Unit
Wide (f ∷ fs) [] = ⊥
Wide (f ∷ fs) (w ∷ ws) = ((x : ℕ) → x ≤ f.most → length (spelled f x) + 1 ≤ w) × Wide fs ws

wide_at : (fs : List Form) (ws : List ℕ) → Wide fs ws → (d : Form) (i : ℕ) → i < length fs → (x : ℕ) → x ≤ (get_or fs i d).most → length (spelled (get_or fs i d) x) + 1 ≤ get_or ws i 0
wide_at [] ws h d i l = absurd (not-suc-le-zero l)
wide_at (f ∷ fs) [] h d i l = absurd h
wide_at (f ∷ fs) (w ∷ ws) h d zero l = h.0
wide_at (f ∷ fs) (w ∷ ws) h d (suc i) l = wide_at fs ws h.1 d i (le_of_suc-le-suc l)

type_wide : (x : ℕ) → x ≤ 2 → length (get_or payment_types x []) ≤ 12
type_wide x h = each_at (λ w. length w ≤ 12) payment_types (omega arith, (omega arith, (omega arith, tt))) [] x (omega arith)

region_wide : (x : ℕ) → x ≤ 4 → length (get_or region_names x []) ≤ 4
region_wide x h =
    each_at (λ w. length w ≤ 4) region_names (omega arith, (omega arith, (omega arith, (omega arith, (omega arith, tt))))) [] x (omega arith)

all_wide : Wide columns widths
unfolding spelled
all_wide = (
  (λ x h. omega (arith, plain_wide 7 x (omega arith))),
  (
    (λ x h. omega (arith, plain_wide 1 x (omega arith))),
    (
      (λ x h. omega (arith, plain_wide 2 x (omega arith))),
      (
        (λ x h. omega (arith, plain_wide 9 x (omega arith))),
        (
          (λ x h. omega arith),
          (
            (λ x h. omega (arith, plain_wide 9 x (omega arith))),
            (
              (λ x h. omega (arith, type_wide x h)),
              (
                (λ x h. omega (arith, region_wide x h)),
                (
                  (λ x h. omega (arith, number_wide 0 6 x (omega arith))),
                  (
                    (λ x h. omega (arith, number_wide 6 4 x (omega arith))),
                    (
                      (λ x h. omega (arith, charge_wide 7 4 x (omega arith))),
                      (
                        (λ x h. omega (arith, charge_wide 4 3 x (omega arith))),
                        (
                          (λ x h. omega (arith, charge_wide 4 3 x (omega arith))),
                          (
                            (λ x h. omega (arith, number_wide 4 3 x (omega arith))),
                            (
                              (λ x h. omega (arith, number_wide 4 3 x (omega arith))),
                              (
                                (λ x h. omega (arith, charge_wide 6 4 x (omega arith))),
                                ((λ x h. omega (arith, charge_wide 6 4 x (omega arith))), tt),
                              ),
                            ),
                          ),
                        ),
                      ),
                    ),
                  ),
                ),
              ),
            ),
          ),
        ),
      ),
    ),
  ),
)

cell_short : (column x : ℕ) → column < 17 → InRange column x → length (cell_text column x) ≤ get_or widths column 0
unfolding cell_text
cell_short column x l r = rw length-append (wide_at columns widths all_wide (number_form 0 0 0) column l x r.1)

fields_short : (field : ℕ → ℕ) → ((column : ℕ) → column < 17 → InRange column (field column)) → (n : ℕ) → n ≤ 17 → length (fields_text field n) ≤ total (λ c. get_or widths c 0) n
unfolding fields_text total
fields_short field r zero l = omega arith
fields_short field r (suc n) l =
    rw length-append (omega (arith, fields_short field r n (omega arith), cell_short n (field n) (omega arith) (r n (omega arith))))

widths_make : total (λ c. get_or widths c 0) 17 ≡ 171
unfolding total
widths_make = refl

-- a row has at most 171 bytes
pub row_wide : (field : ℕ → ℕ) → ((column : ℕ) → column < 17 → InRange column (field column)) → length (fields_text field 17) ≤ 171
row_wide field r = rw (← widths_make) (fields_short field r 17 (omega arith))
