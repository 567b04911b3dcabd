-- A column's word, where it stands with the byte behind it. No two words of one column have the same first letter. Assumes nothing.
use Rattle.std.specs.Prelude.{Some}
use Prim.Native.Nat.{ℕ, zero, suc, ◌+◌, ◌≤◌, ◌<◌}
use mathlib.Core.Path.{◌≡◌, refl, sym, ap, ◌∙◌}
use mathlib.Core.Bool.{Bool, true, false, cond, true≢false, false≢true}
use mathlib.Core.List.{List, [], ◌∷◌, ◌++◌}
use native.Mathlib.Omega.{arith}
use native.Mathlib.Nat.{add-zero}
use borrow.Author.Tests.{eqb-true, eqb-false}
use lib.Dec.{eqb}
use lib.ListN.{length, length-append}
use mathlib.Core.Logic.{⊎_elim}
use Rattle.std.specs.Prelude.{Some}
use Rattle.sections.proofs.Search.{lt_or_ge}
use Rattle.ground.specs.Bytes.{byte_at}
use Rattle.ground.proofs.Part.{part_byte}
use Rattle.decimal.specs.Standing.{Stands}
use Rattle.decimal.proofs.Standing.{stands_two, stands_first, stands_rest, stands_one, stands_byte, stands_within}
use Rattle.decimal.proofs.Reading.{byte_within}
use Rattle.words.specs.Inner.Tells.{Tells}
use Rattle.columns.specs.Inner.Cells.{Among, word_in}
use Rattle.columns.specs.declared.Words.{Words}
use Rattle.columns.specs.declared.Words.TheVariants.{Service, PaymentType, Region}
use Rattle.columns_reading.specs.Inner.Taking.{LettersTo, word_to, WordTo}

-- ---- the letters of a word and the byte behind them

module _ (w : List ℕ) (end : ℕ) (s : List ℕ) (k : ℕ) where
  pub letters_none : {t : Bool} → Tells w s k t → t ≡ false → LettersTo w end s k false
  letters_none c h =
      record { yes = λ q. absurd (false≢true q); no = λ q p. c.no h (stands_first w (end ∷ []) p) }

  module _ {n : ℕ} (long : n ≡ length w) (some : 1 ≤ n) {t : Bool} (c : Tells w s k t) (h : t ≡ true) where
    pub letters_within : k + n ≤ length s
    letters_within = omega (arith, long, stands_within w (omega (arith, long)) (c.yes h))

    pub letters_told : 0 < end → {b : ℕ} {u : Bool} → b ≡ byte_at s (k + n) → u ≡ eqb b end → LettersTo w end s k u
    letters_told l {b} {u} e q = by u q
      where
        by : (t : Bool) → t ≡ eqb b end → LettersTo w end s k t
        by true z =
            let same : byte_at s (k + length w) ≡ end = rw long at (sym e ∙ eqb-true b end (sym z)) in
            record { yes = λ q. stands_two (c.yes h) (stands_one end (byte_within s _ (λ y. omega (arith, same))) same); no = λ q. absurd (true≢false q) }
        by false z =
            record { yes = λ q. absurd (false≢true q); no = λ q p. eqb-false b end (sym z) (e ∙ ap (λ (m : ℕ). byte_at s (k + m)) long ∙ stands_byte end (stands_rest w (end ∷ []) p)) }

-- no word is empty
pub word_some : (words : Words) (x : ℕ) → Among (Some words) x → 1 ≤ length (word_in (Some words) x)
word_some Service x h = omega arith
word_some PaymentType zero h = omega arith
word_some PaymentType (suc zero) h = omega arith
word_some PaymentType (suc (suc zero)) h = omega arith
word_some PaymentType (suc (suc (suc x))) h = absurd (omega arith)
word_some Region zero h = omega arith
word_some Region (suc zero) h = omega arith
word_some Region (suc (suc zero)) h = omega arith
word_some Region (suc (suc (suc zero))) h = omega arith
word_some Region (suc (suc (suc (suc zero)))) h = omega arith
word_some Region (suc (suc (suc (suc (suc x))))) h = absurd (omega arith)

-- what is asked of it before it is looked for
pub word_ready : (words : Words) (x : ℕ) {w : List ℕ} → Among (Some words) x → w ≡ word_in (Some words) x → 1 ≤ length w
word_ready words x h n = omega (arith, ap length n, word_some words x h)

-- ---- word after word: none of the first x stands there

module _ (words : Words) (last end : ℕ) (s : List ℕ) (k : ℕ) where
  pub record NoneOf (x : ℕ) : Type 0 where
    pub none : (y : ℕ) → y < x → Stands (word_to words end y) s k → ⊥

  pub none_yet : NoneOf 0
  none_yet = record { none = λ y h. absurd (omega arith) }

  module _ (x : ℕ) {w : List ℕ} (named : w ≡ word_in (Some words) x) where
    pub none_more : {t : Bool} → NoneOf x → LettersTo w end s k t → t ≡ false → NoneOf (x + 1)
    none_more {t} c q e = record { none = λ y l. ⊎_elim (λ b. c.none y b) (λ b. here y (omega arith)) (lt_or_ge y x) }
      where
        here : (y : ℕ) → y ≡ x → Stands (word_to words end y) s k → ⊥
        here y o p = q.no e (rw named (rw o at p))

    pub word_found : {t : Bool} → x < last + 1 → LettersTo w end s k t → t ≡ true → WordTo words last end s k x (k + length w + 1)
    word_found h q e =
        record {
          fine = omega arith;
          stands = rw named at (q.yes e);
          ends = rw length-append (omega (arith, ap length named));
        }

    pub word_fits : {t : Bool} → LettersTo w end s k t → t ≡ true → k + length w + 1 ≤ length s
    word_fits q e =
        let l = length-append w (end ∷ []) in
        omega (arith, l, stands_within (w ++ (end ∷ [])) (omega (arith, l)) (q.yes e))

  pub word_none : {x : ℕ} → NoneOf x → last + 1 ≤ x → (y e : ℕ) → WordTo words last end s k y e → ⊥
  word_none c h y e t = c.none y (omega (arith, t.fine)) t.stands

-- ---- a word by its first letter

letter : Words → ℕ → ℕ
letter Service b = 0
letter PaymentType b = cond (eqb b 69) 1 (cond (eqb b 67) 2 0)
letter Region b = cond (eqb b 81) 1 (cond (eqb b 83) 2 (cond (eqb b 84) 3 (cond (eqb b 86) 4 0)))

-- the numbers of a column's words
unfoldable pub Few : Words → ℕ → Type 0
Few Service last = last < 1
Few PaymentType last = last < 3
Few Region last = last < 5

by_letter : (words : Words) (end x : ℕ) → Few words x → (letter words (byte_at (word_to words end x) 0) ≡ x) × (1 ≤ length (word_to words end x))
unfolding letter Few
by_letter Service end zero h = (refl, omega arith)
by_letter Service end (suc x) h = absurd (omega arith)
by_letter PaymentType end zero h = (refl, omega arith)
by_letter PaymentType end (suc zero) h = (refl, omega arith)
by_letter PaymentType end (suc (suc zero)) h = (refl, omega arith)
by_letter PaymentType end (suc (suc (suc x))) h = absurd (omega arith)
by_letter Region end zero h = (refl, omega arith)
by_letter Region end (suc zero) h = (refl, omega arith)
by_letter Region end (suc (suc zero)) h = (refl, omega arith)
by_letter Region end (suc (suc (suc zero))) h = (refl, omega arith)
by_letter Region end (suc (suc (suc (suc zero)))) h = (refl, omega arith)
by_letter Region end (suc (suc (suc (suc (suc x))))) h = absurd (omega arith)

fewer : (words : Words) (x last : ℕ) → x ≤ last → Few words last → Few words x
unfolding Few
fewer Service x last h f = omega arith
fewer PaymentType x last h f = omega arith
fewer Region x last h f = omega arith

module _ (words : Words) (last end : ℕ) (few : Few words last) (s : List ℕ) (k : ℕ) where
  here : (x e : ℕ) → WordTo words last end s k x e → x ≡ letter words (byte_at s k)
  here x e t =
      let b = by_letter words end x (fewer words x last t.fine few) in
      sym b.0
      ∙ ap (λ (l : List ℕ). letter words (byte_at l 0)) (sym t.stands.bytes)
      ∙ ap (letter words) (rw add-zero at (part_byte s k (length (word_to words end x)) 0 b.1))

  -- a text has one at a place
  pub word_to_once : (x y e g : ℕ) → WordTo words last end s k x e → WordTo words last end s k y g → (x ≡ y) × (e ≡ g)
  word_to_once x y e g t u =
      let o : x ≡ y = here x e t ∙ sym (here y g u) in
      (o, t.ends ∙ ap (λ (z : ℕ). k + length (word_to words end z)) o ∙ sym u.ends)
