-- What acceptance says of each check, and that the verdict is the table's twelve in a row. Assumes nothing.
use mathlib.Core.List.{List, [], ◌∷◌}
use Prim.Native.Nat.{ℕ}
use mathlib.Core.Path.{◌≡◌}
use Rattle.sections.specs.Refusal.{first_of, unrefused}
use Rattle.sections.proofs.Verdicts.{first_held, first_joined}
use Rattle.book.specs.Book.{Book, book_of}
use Rattle.book.specs.Table.{check1, check2, check3, check4, check5, check6, check7, check8, check9, check17, check18, check10, record_checks, soundness, locked_for, verdict}

-- ---- the twelve in a row

pub twelve_in_a_row : (b l : List ℕ) → verdict b l ≡ first_of (check1 b ∷ check2 b ∷ check3 b ∷ check4 b ∷ check5 (book_of b) ∷ check6 (book_of b) ∷ check7 (book_of b) ∷ check8 (book_of b) ∷ check9 (book_of b) ∷ check17 (book_of b) l ∷ check18 (book_of b) l ∷ check10 (book_of b) (book_of (locked_for b l)) ∷ [])
unfolding verdict soundness
twelve_in_a_row b l =
    first_joined (check1 b ∷ check2 b ∷ check3 b ∷ check4 b ∷ record_checks (book_of b)) (check17 (book_of b) l ∷ check18 (book_of b) l ∷ check10 (book_of b) (book_of (locked_for b l)) ∷ [])

-- ---- 5 to 9

pub record NoneRefused (B : Book) : Type 0 where
  pub fields : check5 B ≡ unrefused
  pub order : check6 B ≡ unrefused
  pub names : check7 B ≡ unrefused
  pub factors : check8 B ≡ unrefused
  pub sums : check9 B ≡ unrefused

pub none_refused : (B : Book) → first_of (record_checks B) ≡ unrefused → NoneRefused B
none_refused B e =
    let c5 = first_held (check5 B) _ e in
    let c6 = first_held (check6 B) _ c5.rest in
    let c7 = first_held (check7 B) _ c6.rest in
    let c8 = first_held (check8 B) _ c7.rest in
    let c9 = first_held (check9 B) _ c8.rest in
    record { fields = c5.here; order = c6.here; names = c7.here; factors = c8.here; sums = c9.here }

-- ---- 1 to 9

pub record SoundPassed (b : List ℕ) : Type 0 where
  pub range : check3 b ≡ unrefused
  pub length : check4 b ≡ unrefused
  pub records : NoneRefused (book_of b)

pub sound_passed : (b : List ℕ) → soundness b ≡ unrefused → SoundPassed b
unfolding soundness
sound_passed b e =
    let c1 = first_held _ _ e in
    let c2 = first_held _ _ c1.rest in
    let c3 = first_held _ _ c2.rest in
    let c4 = first_held _ _ c3.rest in
    record { range = c3.here; length = c4.here; records = none_refused (book_of b) c4.rest }

-- ---- all of them

pub record AllPassed (b l : List ℕ) : Type 0 where
  pub sound : soundness b ≡ unrefused
  pub fits : check18 (book_of b) l ≡ unrefused
  pub divisors : check10 (book_of b) (book_of (locked_for b l)) ≡ unrefused

pub all_passed : (b l : List ℕ) → verdict b l ≡ unrefused → AllPassed b l
unfolding verdict
all_passed b l e =
    let s = first_held (soundness b) _ e in
    let lent = first_held (check17 (book_of b) l) _ s.rest in
    let fits = first_held (check18 (book_of b) l) _ lent.rest in
    record { sound = s.here; fits = fits.here; divisors = (first_held (check10 (book_of b) (book_of (locked_for b l))) _ fits.rest).here }
