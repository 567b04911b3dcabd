-- Demand 1. "Every input gets an answer. Any bytes, any length: the statement, or a refusal by the number the rules fix, with not one byte of
-- the lent buffer changed. Never 'the caller must check first'." r is what a call answers; of one that is lent a buffer, l is what that held
-- and x what it holds then.
use Rattle.std.specs.Prelude.{ℕ, ◌≤◌, ◌<◌, ◌≡◌, true, List, [], ◌∷◌, ◌⊎◌, pos, length}
use Rattle.ground.specs.Put.{put}
use Rattle.sections.specs.Refusal as verdicts
use Rattle.dispatch.specs.Dispatch.{payment, base_cost}
use Rattle.book.specs.Table.{verdict}
use Rattle.sharing.specs.Once.{has}
use Rattle.statement.specs.Lent.{Outcome, refuses, gives, length_for}
use Rattle.reading.specs.Calls.{heading_read, line_read}
use Rattle.reading.specs.Rewriting.{rewritten}
use Rattle.unpacking.specs.Unpacking.{unpacked}
use Rattle.settlement.specs.Settle.{outcome}
use Rattle.balance.specs.Balance.{balance_of}
use Rattle.cutoffs.specs.Cutoffs.{cut_of}
use Rattle.nmas_file.specs.File.{file_outcome}
use Rattle.answers.specs.Answers.{verdict_answer, written_answer, heading_answer, entry_answer, pool_answer, cut_answer, cost_answer, no_row_answer, Called, SizeCalled, EntryCalled}
use Rattle.answers.specs.declared.VerdictAnswer.{VerdictAnswer}
use Rattle.answers.specs.declared.WrittenAnswer.{WrittenAnswer}
use Rattle.answers.specs.declared.HeadingAnswer.{HeadingAnswer}
use Rattle.answers.specs.declared.EntryAnswer.{EntryAnswer}
use Rattle.answers.specs.declared.PoolAnswer.{PoolAnswer}
use Rattle.answers.specs.declared.CutAnswer.{CutAnswer}
use Rattle.answers.specs.declared.CostAnswer.{CostAnswer}
use Rattle.answers.specs.declared.NmasSizeAnswer.{NmasSizeAnswer}
use Rattle.answers.specs.declared.NmasEntryAnswer.{NmasEntryAnswer}

-- ---- the numbers of 01's table that each call can give

-- "Numbers 1 to 10 come from every call on a book." 02, Req 04: "Refusals: after 9 and before 10, 17 .., then 18"
abbrev pub on_a_book : List ℕ
on_a_book = 1 ∷ 2 ∷ 3 ∷ 4 ∷ 5 ∷ 6 ∷ 7 ∷ 8 ∷ 9 ∷ 17 ∷ 18 ∷ 10 ∷ []

-- "A statement then looks for 11, 12, 13, a balance for 15."
abbrev pub on_a_statement : List ℕ
on_a_statement = 11 ∷ 12 ∷ 13 ∷ on_a_book

-- 02, Req 02: "the first gives 1 to 12, the second 1 to 13", and both 17 and 18 since request 04
abbrev pub on_a_length : List ℕ
on_a_length = 11 ∷ 12 ∷ on_a_book

abbrev pub on_a_balance : List ℕ
on_a_balance = 15 ∷ on_a_book

-- a statement that is written again, and one whose lines are handed out: "14 is looked for first, then 13"
abbrev pub on_rewriting : List ℕ
on_rewriting = 13 ∷ 14 ∷ []

-- "Asking for one line, numbered from 0, looks for 14, then 15."
abbrev pub on_a_line : List ℕ
on_a_line = 14 ∷ 15 ∷ []

abbrev pub on_a_header : List ℕ
on_a_header = 14 ∷ []

-- 02, Req 01: "Refusals: 16, the only one of this call"
abbrev pub on_dispatch_rows : List ℕ
on_dispatch_rows = 16 ∷ []

-- 02, Req 05: "writing gives those of the statement call", and 15 for a payment type that is none of the three
abbrev pub on_a_file : List ℕ
on_a_file = 15 ∷ on_a_statement

-- "reading gives 19", and asking for one row, numbered from 0, then 15
abbrev pub on_rows : List ℕ
on_rows = 19 ∷ []

abbrev pub on_a_row : List ℕ
on_a_row = 15 ∷ on_rows

abbrev pub OneOf : List ℕ → ℕ → Type 0
OneOf numbers n = has n numbers ≡ true

-- ---- a call that is lent a buffer

-- it gives xs: they stand at the front, every later byte is what it was, and the answer is how many they are
pub record Gives (xs l : List ℕ) (r : WrittenAnswer) (x : List ℕ) : Type 0 where
  pub room : length xs ≤ length l
  pub answer : r ≡ record { refusal = 0; place = 0; length = length xs }
  pub bytes : x ≡ put l 0 xs

-- it refuses: "A refusal answers its number and place, any other number in the answer 0, and the lent buffer holds what it held."
pub record Refuses (number place : ℕ) (l : List ℕ) (r : WrittenAnswer) (x : List ℕ) : Type 0 where
  pub answer : r ≡ record { refusal = number; place = place; length = 0 }
  pub bytes : x ≡ l

-- one of these, where o is what the rules fix for the input
pub data Answered (numbers : List ℕ) (o : Outcome) (l : List ℕ) (r : WrittenAnswer) (x : List ℕ) : Type 0 where
  written : (xs : List ℕ) → o ≡ gives xs → Gives xs l r x → Answered numbers o l r x
  short : (xs : List ℕ) → o ≡ gives xs → length l < length xs → OneOf numbers 13 → Refuses 13 0 l r x → Answered numbers o l r x
  refused : (number place : ℕ) → o ≡ refuses number place → OneOf numbers number → Refuses number place l r x → Answered numbers o l r x

-- ---- a call that only answers: refusal 0, or a number of the table and any other number but the place 0

abbrev pub CheckAnswered : List ℕ → List ℕ → VerdictAnswer → Type 0
CheckAnswered b locked r =
    ((verdict b locked ≡ verdicts.unrefused) × (r ≡ record { refusal = 0; place = 0 }))
    ⊎ ((verdict b locked ≡ verdicts.refused r.refusal r.place) × OneOf on_a_book r.refusal)

abbrev pub LengthAnswered : WrittenAnswer → Type 0
LengthAnswered r =
    ((r.refusal ≡ 0) × (r.place ≡ 0))
    ⊎ (OneOf on_a_length r.refusal × (r ≡ record { refusal = r.refusal; place = r.place; length = 0 }))

abbrev pub PoolAnswered : PoolAnswer → Type 0
PoolAnswered r =
    ((r.refusal ≡ 0) × (r.place ≡ 0))
    ⊎ (OneOf on_a_balance r.refusal × (r ≡ record { refusal = r.refusal; place = r.place; amount = pos 0; lines = 0; sum = pos 0 }))

abbrev pub CutAnswered : CutAnswer → Type 0
CutAnswered r =
    ((r.refusal ≡ 0) × (r.place ≡ 0))
    ⊎ (OneOf on_a_balance r.refusal × (r ≡ record { refusal = r.refusal; place = r.place; stage = 0; region = 0; divisor = 0; cut = pos 0 }))

abbrev pub HeadingAnswered : HeadingAnswer → Type 0
HeadingAnswered r =
    ((r.refusal ≡ 0) × (r.place ≡ 0))
    ⊎ (OneOf on_a_header r.refusal × (r ≡ record { refusal = r.refusal; place = 0; account = 0; date = 0; interval = 0; run = 0; lines = 0 }))

abbrev pub EntryAnswered : EntryAnswer → Type 0
EntryAnswered r =
    ((r.refusal ≡ 0) × (r.place ≡ 0))
    ⊎ (OneOf on_a_line r.refusal × (r ≡ record { refusal = r.refusal; place = 0; id = 0; part = 0; regions = 0; unit = 0; amount = pos 0 }))

abbrev pub CostAnswered : CostAnswer → Type 0
CostAnswered r =
    ((r.refusal ≡ 0) × (r.place ≡ 0))
    ⊎ (OneOf on_dispatch_rows r.refusal × (r ≡ record { refusal = r.refusal; place = r.place; amount = 0 }))

abbrev pub NmasSizeAnswered : NmasSizeAnswer → Type 0
NmasSizeAnswered r =
    ((r.refusal ≡ 0) × (r.place ≡ 0))
    ⊎ (OneOf on_rows r.refusal × (r ≡ record { refusal = r.refusal; place = r.place; rows = 0 }))

abbrev pub NmasEntryAnswered : NmasEntryAnswer → Type 0
NmasEntryAnswered r = ((r.refusal ≡ 0) × (r.place ≡ 0)) ⊎ (OneOf on_a_row r.refusal × (r ≡ no_row_answer r.refusal r.place))

-- ---- what the writing calls promise, and the one that is asked before

-- the length call on book b, with these bytes lent as the locked book: r is what it answers
abbrev pub LengthCall : List ℕ → List ℕ → ℕ → WrittenAnswer → Type 0
LengthCall b locked account r = r ≡ written_answer (length_for (outcome b locked account))

-- the cut-off call likewise, of a pool and of one of its stages, by their numbers
abbrev pub CutoffCall : List ℕ → List ℕ → ℕ → ℕ → CutAnswer → Type 0
CutoffCall b locked number index r = r ≡ cut_answer (cut_of b locked number index)

-- the statement call likewise, with a buffer that held l: r is what it answers, x what the buffer holds then
abbrev pub StatementCall : List ℕ → List ℕ → ℕ → List ℕ → WrittenAnswer → List ℕ → Type 0
StatementCall b locked account l r x = Called (outcome b locked account) l r x

-- the rewriting call on the bytes s, likewise
abbrev pub RewriteCall : List ℕ → List ℕ → WrittenAnswer → List ℕ → Type 0
RewriteCall s l r x = Called (rewritten s) l r x

-- the call that hands out all lines of the bytes s, likewise
abbrev pub LinesCall : List ℕ → List ℕ → WrittenAnswer → List ℕ → Type 0
LinesCall s l r x = Called (unpacked s) l r x

-- the call that writes the reconciliation file, likewise
abbrev pub FileCall : List ℕ → List ℕ → ℕ → ℕ → List ℕ → WrittenAnswer → List ℕ → Type 0
FileCall b locked account payment_type l r x = Called (file_outcome b locked account payment_type) l r x

-- ---- the demand, of what each call of the library promises, for every input

pub record EveryInputIsAnswered : Type 0 where
  -- each call on a book takes a locked book besides, of any bytes too
  pub check : (b locked : List ℕ) (r : VerdictAnswer) → r ≡ verdict_answer (verdict b locked) → CheckAnswered b locked r
  pub statement : (b locked : List ℕ) (account : ℕ) (l : List ℕ) (r : WrittenAnswer) (x : List ℕ) → StatementCall b locked account l r x
      → Answered on_a_statement (outcome b locked account) l r x
  pub length : (b locked : List ℕ) (account : ℕ) (r : WrittenAnswer) → LengthCall b locked account r → LengthAnswered r
  pub balance : (b locked : List ℕ) (number : ℕ) (r : PoolAnswer) → r ≡ pool_answer (balance_of b locked number) → PoolAnswered r
  pub cutoff : (b locked : List ℕ) (number index : ℕ) (r : CutAnswer) → CutoffCall b locked number index r → CutAnswered r
  pub header : (s : List ℕ) (r : HeadingAnswer) → r ≡ heading_answer (heading_read s) → HeadingAnswered r
  pub line : (s : List ℕ) (index : ℕ) (r : EntryAnswer) → r ≡ entry_answer (line_read s index) → EntryAnswered r
  pub rewrite : (s l : List ℕ) (r : WrittenAnswer) (x : List ℕ) → RewriteCall s l r x → Answered on_rewriting (rewritten s) l r x
  pub lines : (s l : List ℕ) (r : WrittenAnswer) (x : List ℕ) → LinesCall s l r x → Answered on_rewriting (unpacked s) l r x
  pub payment : (s : List ℕ) (service : ℕ) (r : CostAnswer) → r ≡ cost_answer (payment s service) → CostAnswered r
  pub base_cost : (s : List ℕ) (id service : ℕ) (r : CostAnswer) → r ≡ cost_answer (base_cost s id service) → CostAnswered r
  pub file : (b locked : List ℕ) (account payment_type : ℕ) (l : List ℕ) (r : WrittenAnswer) (x : List ℕ) → FileCall b locked account payment_type l r x
      → Answered on_a_file (file_outcome b locked account payment_type) l r x
  pub rows : (s : List ℕ) (r : NmasSizeAnswer) → SizeCalled s r → NmasSizeAnswered r
  pub row : (s : List ℕ) (index : ℕ) (r : NmasEntryAnswer) → EntryCalled s index r → NmasEntryAnswered r
