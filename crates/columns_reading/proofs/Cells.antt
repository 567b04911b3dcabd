-- A field of any column: what was read as a number or as a word is the column's field, and a text has one at a place. Assumes nothing.
use Prim.Native.Nat.{ℕ, ◌≤◌, ◌<◌}
use mathlib.Core.Path.{◌≡◌, refl, sym, ap}
use mathlib.Core.Bool.{Bool, true, false, cond}
use mathlib.Core.List.{List, [], ◌∷◌, ◌++◌}
use native.Mathlib.Omega.{arith}
use lib.Dec.{eqb}
use Rattle.ground.specs.Inner.Each.{Each}
use Rattle.ground.proofs.Each.{each_at}
use Rattle.decimal.specs.Standing.{is_digit, Spelled}
use Rattle.std.specs.Prelude.{Option, None, Some, IfSome}
use Rattle.std.proofs.lemmas.Option.{MatchOption-at_some}
use Rattle.decimal_reading.specs.Reads.{Reads}
use Rattle.decimal_reading.specs.declared.Taken.{Taken}
use Rattle.decimal_reading.proofs.Answered.{reads_same}
use Rattle.columns.specs.Columns.{number_form, charge_form, columns, form_of, end_of, cell_text}
use Rattle.columns.specs.declared.Form.{Form}
use Rattle.columns.specs.declared.Words.{Words}
use Rattle.columns.proofs.Forms.{as_number, as_word}
use Rattle.columns_reading.specs.Inner.Taking.{number_to, NumberTo, word_to, WordTo, CellAt}
use Rattle.columns_reading.proofs.Numbers.{number_to_once}
use Rattle.columns_reading.proofs.Words.{Few, word_to_once}

spelled_same : {FineA FineB : ℕ → Type 0} {a b : ℕ → List ℕ} {s : List ℕ} {k x e : ℕ} → (FineA x → FineB x) → a x ≡ b x → Spelled FineA a s k x e → Spelled FineB b s k x e
spelled_same {FineA} {FineB} {a} {b} {s} {k} {x} {e} f q t = record { fine = f t.fine; stands = rw (← q) t.stands; ends = rw (← q) t.ends }

-- ---- the byte behind a field

pub end_some : (column : ℕ) → 0 < end_of column
end_some column = by (eqb column 16)
  where
    by : (t : Bool) → 0 < cond t 10 44
    by true = omega arith
    by false = omega arith

pub end_apart : (column : ℕ) → is_digit (end_of column) ≡ false
end_apart column = by (eqb column 16)
  where
    by : (t : Bool) → is_digit (cond t 10 44) ≡ false
    by true = refl
    by false = refl

-- ---- the two kinds of column

-- a column of words begins with the first, and has as many as there are
pub record WordsIn (least most : ℕ) (words : Words) : Type 0 where
  pub first : least ≡ 0
  pub few : Few words most
  pub last : most ≤ 4

-- and no column has numbers of more than twelve digits
pub record WordsFine (f : Form) : Type 0 where
  pub words : IfSome f.words (λ w. WordsIn f.least f.most w)
  pub small : f.most < 1_000_000_000_000

number_fine : (d l m : ℕ) → m < 1_000_000_000_000 → WordsFine (number_form d l m)
number_fine d l m h = record { words = tt; small = h }

charge_fine : (d m : ℕ) → m < 1_000_000_000_000 → WordsFine (charge_form d m)
charge_fine d m h = record { words = tt; small = h }

each_column : Each WordsFine columns
unfolding Few
each_column = (
  number_fine 0 0 _ (omega arith),
  (
    number_fine 0 1 _ (omega arith),
    (
      number_fine 0 1 _ (omega arith),
      (
        number_fine 0 1 _ (omega arith),
        (
          record { words = record { first = refl; few = omega arith; last = omega arith }; small = omega arith },
          (
            number_fine 0 1 _ (omega arith),
            (
              record { words = record { first = refl; few = omega arith; last = omega arith }; small = omega arith },
              (
                record { words = record { first = refl; few = omega arith; last = omega arith }; small = omega arith },
                (
                  number_fine 6 1 _ (omega arith),
                  (
                    number_fine 4 0 _ (omega arith),
                    (
                      charge_fine 4 _ (omega arith),
                      (
                        charge_fine 3 _ (omega arith),
                        (
                          charge_fine 3 _ (omega arith),
                          (
                            number_fine 3 0 _ (omega arith),
                            (
                              number_fine 3 0 _ (omega arith),
                              (
                                charge_fine 4 _ (omega arith),
                                (charge_fine 4 _ (omega arith), tt),
                              ),
                            ),
                          ),
                        ),
                      ),
                    ),
                  ),
                ),
              ),
            ),
          ),
        ),
      ),
    ),
  ),
)

pub words_fine : (column : ℕ) → column < 17 → WordsFine (form_of column)
words_fine column h = each_at WordsFine columns each_column (number_form 0 0 0) column h

-- the words of a column's form
pub words_in : (column : ℕ) → column < 17 → {f : Form} → f ≡ form_of column → (words : Words) → f.words ≡ Some words → WordsIn f.least f.most words
words_in column h {f} form words e = rw form (MatchOption-at_some _ (λ w. WordsIn (form_of column).least (form_of column).most w) words (rw form at e) (words_fine column h).words)

module _ (column : ℕ) {f : Form} (form : f ≡ form_of column) {end : ℕ} (ending : end ≡ end_of column) (s : List ℕ) (k : ℕ) where
  module _ (h : f.words ≡ None) where
    number_text_lem : (x : ℕ) → number_to f end x ≡ cell_text column x
    unfolding cell_text
    number_text_lem x = rw (form, ending) (ap (λ (l : List ℕ). l ++ (end_of column ∷ [])) (sym (as_number (form_of column) x (rw form at h))))

    to_number : (x e : ℕ) → CellAt s k column x e → NumberTo f end s k x e
    to_number x e c = spelled_same (λ p. rw form p) (sym (number_text_lem x)) c

    pub as_number_cell : (r : Option Taken) → Reads (NumberTo f end s k) r → Reads (CellAt s k column) r
    as_number_cell = reads_same (λ x e. spelled_same (λ p. rw form at p) (number_text_lem x)) to_number

  module _ (words : Words) (h : f.words ≡ Some words) where
    word_text : (x : ℕ) → word_to words end x ≡ cell_text column x
    unfolding cell_text
    word_text x = rw ending (ap (λ (l : List ℕ). l ++ (end_of column ∷ [])) (sym (as_word (form_of column) x (rw form at h))))

    to_word : (x e : ℕ) → CellAt s k column x e → WordTo words f.most end s k x e
    to_word x e c = spelled_same (λ p. rw form p.1) (sym (word_text x)) c

    pub as_word_cell : f.least ≡ 0 → (r : Option Taken) → Reads (WordTo words f.most end s k) r → Reads (CellAt s k column) r
    as_word_cell z = reads_same (λ x e. spelled_same (λ p. (omega (arith, rw form at z), rw form at p)) (word_text x)) to_word

-- a text has one field at a place
pub cell_once : (column : ℕ) → column < 17 → (s : List ℕ) (k x y e g : ℕ) → CellAt s k column x e → CellAt s k column y g → (x ≡ y) × (e ≡ g)
cell_once column h s k x y e g p q = by (form_of column).words refl
  where
    by : (w : Option Words) → (form_of column).words ≡ w → (x ≡ y) × (e ≡ g)
    by None t = number_to_once (form_of column) (end_of column) (end_apart column) s k x y e g (to_number column refl refl s k t x e p) (to_number column refl refl s k t y g q)
    by (Some words) t = word_to_once words (form_of column).most (end_of column) (words_in column h refl words t).few s k x y e g (to_word column refl refl s k words t x e p) (to_word column refl refl s k words t y g q)
