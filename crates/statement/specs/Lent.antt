-- What a call that writes a statement answers, and what the lent buffer holds then. 01, Refusals: "A refusal answers its number and place, ..
-- and the lent buffer holds what it held. Success writes exactly the statement at the front and answers its length; later bytes stay."
use Rattle.std.specs.Prelude.{ℕ, ◌≡◌, cond, List, leb, length, Result, Ok}
use Rattle.ground.specs.Put.{put}
use Rattle.sections.specs.declared.Refusal.{Refusal}
use Rattle.sections.specs.Refusal.{refused}

-- a refusal, or a statement's bytes
pub data Outcome : Type 0 where
  refuses : ℕ → ℕ → Outcome
  gives : List ℕ → Outcome

-- how long that is: 02, Req 02, "one answers the length for an account". No buffer is lent, and so there is no 13
unfoldable pub length_for : Outcome → Result ℕ Refusal
length_for (refuses number place) = refused number place
length_for (gives xs) = Ok (length xs)

-- 13: "lent buffer shorter than the statement"
unfoldable pub answer_for : Outcome → List ℕ → Result ℕ Refusal
answer_for (refuses number place) l = refused number place
answer_for (gives xs) l = cond (leb (length xs) (length l)) (Ok (length xs)) (refused 13 0)

unfoldable pub left_in : Outcome → List ℕ → List ℕ
left_in (refuses number place) l = l
left_in (gives xs) l = cond (leb (length xs) (length l)) (put l 0 xs) l

pub record Lent (o : Outcome) (l : List ℕ) (r : Result ℕ Refusal) (b : List ℕ) : Type 0 where
  pub answer : r ≡ answer_for o l
  pub left : b ≡ left_in o l
