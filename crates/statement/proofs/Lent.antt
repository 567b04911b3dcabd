-- Each way in which a call that writes a statement ends, or one that tells its length, and what an answered length says; o is what the definition
-- gives. Assumes nothing.
use Prim.Native.Nat.{ℕ, ◌≤◌, ◌<◌}
use mathlib.Core.Path.{◌≡◌, refl, sym, ap}
use mathlib.Core.Bool.{Bool, true, false, cond}
use mathlib.Core.List.{List}
use native.Mathlib.Omega.{arith}
use borrow.Author.Tests.{le-leb, lt-leb, leb-true}
use lib.Dec.{leb}
use lib.ListN.{length}
use Rattle.std.specs.Prelude.{Ok}
use Rattle.sections.specs.declared.Refusal.{Refusal}
use Rattle.sections.specs.Refusal.{refused}
use Rattle.sections.proofs.Verdicts.{not_refused, same_refusal}
use Rattle.ground.specs.Bytes.{part}
use Rattle.ground.specs.Put.{put}
use Rattle.ground.proofs.Put.{put_there}
use Rattle.statement.specs.Lent.{Outcome, refuses, gives, length_for, answer_for, left_in, Lent}

pub lent_refused : (number place : ℕ) (o : Outcome) (l : List ℕ) → o ≡ refuses number place → Lent o l (refused number place) l
unfolding answer_for left_in
lent_refused number place o l e = record { answer = rw e; left = rw e }

module _ (o : Outcome) (xs : List ℕ) (given : o ≡ gives xs) (l : List ℕ) where
  -- 13
  pub lent_short : length l < length xs → Lent o l (refused 13 0) l
  unfolding answer_for left_in
  lent_short h =
      let f = lt-leb (length xs) (length l) h in
      record { answer = rw (given, f); left = rw (given, f) }

  pub lent_written : (n : ℕ) {b : List ℕ} → n ≡ length xs → length xs ≤ length l → b ≡ put l 0 xs → Lent o l (Ok n) b
  unfolding answer_for left_in
  lent_written n q h e =
      let f = le-leb (length xs) (length l) h in
      record { answer = rw (given, f) (ap Ok q); left = rw (given, f) e }

-- where a length is answered, the definition gives just the bytes that stand at the front
pub lent_front : (o : Outcome) (l : List ℕ) (n : ℕ) (b : List ℕ) → Lent o l (Ok n) b → o ≡ gives (part b 0 n)
unfolding answer_for left_in
lent_front (refuses number place) l n b h = absurd (not_refused h.answer)
lent_front (gives xs) l n b h = by (leb (length xs) (length l)) refl h.answer h.left
  where
    by : (t : Bool) → leb (length xs) (length l) ≡ t → Ok n ≡ cond t (Ok (length xs)) (refused 13 0) → b ≡ cond t (put l 0 xs) l → gives xs ≡ gives (part b 0 n)
    by true t e f =
        let same : n ≡ length xs = cc in
        ap gives (rw (f, same) (sym (put_there l 0 xs (omega (arith, leb-true (length xs) (length l) t)))))
    by false t e f = absurd (not_refused e)

-- ---- the length, told with no buffer

pub length_refused : (number place : ℕ) (o : Outcome) → o ≡ refuses number place → refused number place ≡ length_for o
unfolding length_for
length_refused number place o e = rw e

pub length_given : (o : Outcome) (xs : List ℕ) → o ≡ gives xs → (n : ℕ) → n ≡ length xs → Ok n ≡ length_for o
unfolding length_for
length_given o xs e n q = rw e (ap Ok q)

-- and back: what a told length, or a refusal to tell it, says of the outcome
pub refused_length : (o : Outcome) (number place : ℕ) → refused number place ≡ length_for o → o ≡ refuses number place
unfolding length_for
refused_length (refuses m p) number place e = ap (λ (r : Refusal). refuses r.number r.place) (sym (same_refusal e))
refused_length (gives xs) number place e = absurd (not_refused (sym e))

pub record Long (o : Outcome) (n : ℕ) : Type 0 where
  pub bytes : List ℕ
  pub given : o ≡ gives bytes
  pub long : n ≡ length bytes

pub long_given : (o : Outcome) (n : ℕ) → Ok n ≡ length_for o → Long o n
unfolding length_for
long_given (refuses number place) n e = absurd (not_refused e)
long_given (gives xs) n e = let same : Ok n ≡ Ok (length xs) = e in record { bytes = xs; given = refl; long = cc }
