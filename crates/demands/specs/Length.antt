-- 02, Req 02: "Make two operations of it: one answers the length for an account, the other writes. Each does its own checks: the first gives
-- 1 to 12, the second 1 to 13 in the same order." How the two stand to each other, whoever makes them. r is what the length call answers; s is what
-- the statement call answers for the same book and account, l what its buffer held and x what it holds then.
use Rattle.std.specs.Prelude.{ℕ, ◌+◌, ◌*◌, ◌≤◌, ◌<◌, ◌≡◌, List, length}
use Rattle.ground.specs.Bytes.{AreBytes}
use Rattle.answers.specs.declared.WrittenAnswer.{WrittenAnswer}
use Rattle.demands.specs.Demand1.{Refuses, LengthCall, StatementCall}
use Rattle.demands.specs.Demand2.{lines_by_the_guide}

pub record AskedFirst (l : List ℕ) (r s : WrittenAnswer) (x : List ℕ) : Type 0 where
  -- the length is that of what is written
  pub same : s.refusal ≡ 0 → r ≡ s
  -- a buffer of that length is never refused 13, nor by another number
  pub enough : r.refusal ≡ 0 → r.length ≤ length l → s ≡ r
  -- one of a byte less always is, and left as it was
  pub short : r.refusal ≡ 0 → length l < r.length → Refuses 13 0 l s x
  -- where the one refuses, the other gives the same number and place
  pub refused : (r.refusal ≡ 0 → ⊥) → Refuses r.refusal r.place l s x
  -- and back, but for 13, which is about a buffer
  pub back : (s.refusal ≡ 0 → ⊥) → (s.refusal ≡ 13 → ⊥) → r ≡ s

-- 24 bytes of header, and 24 of each line that the guide gives the account
abbrev pub AsLongAsTheGuides : List ℕ → List ℕ → ℕ → WrittenAnswer → Type 0
AsLongAsTheGuides b locked account r = r.length ≡ 24 + 24 * length (lines_by_the_guide b locked account)

pub record LengthIsTheStatements : Type 0 where
  pub calls : (b locked : List ℕ) (account : ℕ) (l : List ℕ) (r s : WrittenAnswer) (x : List ℕ) → LengthCall b locked account r
      → StatementCall b locked account l s x → AskedFirst l r s x
  pub lines : (b locked : List ℕ) → AreBytes b → AreBytes locked → (account : ℕ) (r : WrittenAnswer) → LengthCall b locked account r
      → r.refusal ≡ 0 → AsLongAsTheGuides b locked account r
