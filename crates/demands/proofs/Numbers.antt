-- By which numbers each call can refuse: those that 01's table has for it. Assumes nothing.
use Rattle.std.specs.Prelude.{Option, None, Some, Ok, Err}
use Rattle.sections.specs.declared.Refusal.{Refusal}
use Prim.Native.Nat.{ℕ}
use mathlib.Core.Path.{◌≡◌, refl, ap}
use mathlib.Core.Bool.{Bool, true, false, cond, ◌||◌}
use mathlib.Core.List.{List, [], ◌∷◌}
use lib.Dec.{eqb, leb}
use Rattle.ground.specs.Inner.Each.{Each}
use Rattle.sections.specs.Refusal.{unless, at_record, earlier, first_of, Verdict, unrefused, refused}
use Rattle.sections.proofs.Cases.{zero_one}
use Rattle.dispatch.specs.Dispatch.{rows_verdict}
use Rattle.book.specs.Book.{book_of}
use Rattle.book.specs.Table.{soundness, locked_for, verdict, check1, check2, check3, check4, check5, check6, check7, check8, check9, check17, check18, check10}
use Rattle.accounts.specs.Account.{rows_of_account, locked_of, unnamed}
use Rattle.sharing.specs.Once.{has}
use Rattle.statement.specs.Lent.{Outcome, refuses, gives}
use Rattle.lines.specs.Limit.{any_over}
use Rattle.parsing.specs.Parsing.{is_statement}
use Rattle.reading.specs.Calls.{if_statement}
use Rattle.settlement.specs.Settle.{settled, lines_for, outcome_if, outcome}
use Rattle.nmas.specs.Rows.{text_of}
use Rattle.nmas_file.specs.File.{file_rows_for, instead, file_outcome}
use Rattle.demands.specs.Demand1.{on_a_book, on_a_length, on_a_statement, on_rewriting, on_dispatch_rows, on_a_file, OneOf}

-- a verdict, and an outcome, that refuses only by one of the numbers
abbrev pub Among : List ℕ → Verdict → Type 0
Among numbers v = (number place : ℕ) → v ≡ refused number place → OneOf numbers number

abbrev pub Within : List ℕ → Outcome → Type 0
Within numbers o = (number place : ℕ) → o ≡ refuses number place → OneOf numbers number

same_refusal : {a b : Refusal} → ◌≡◌ {A = Verdict} (Err a) (Err b) → a ≡ b
same_refusal e = cc

same_number : {k m number place : ℕ} → ◌≡◌ {A = Verdict} (refused k m) (refused number place) → k ≡ number
same_number e = ap (λ (r : Refusal). r.number) (same_refusal e)

not_refused : (number place : ℕ) → unrefused ≡ refused number place → ⊥
not_refused number place e = zero_one cc

pub or-true : (a b : Bool) → b ≡ true → (a || b) ≡ true
or-true true b e = refl
or-true false b e = e

not_given : (xs : List ℕ) (number place : ℕ) → gives xs ≡ refuses number place → ⊥
not_given xs number place e = zero_one cc

-- ---- the table

module _ (numbers : List ℕ) where
  accepts : Among numbers unrefused
  accepts number place e = absurd (not_refused number place e)

  among_one : (k at₀ : ℕ) → OneOf numbers k → Among numbers (refused k at₀)
  among_one k at₀ h number place e = rw (← same_number e) h

  among_unless : (t : Bool) (k : ℕ) → OneOf numbers k → Among numbers (unless t k)
  unfolding unless
  among_unless true k h = accepts
  among_unless false k h = among_one k 0 h

  among_record : (k offset size : ℕ) (c : Option ℕ) → OneOf numbers k → Among numbers (at_record k offset size c)
  unfolding at_record
  among_record k offset size None h = accepts
  among_record k offset size (Some i) h = among_one k _ h

  among_first : (vs : List Verdict) → Each (Among numbers) vs → Among numbers (first_of vs)
  unfolding first_of earlier
  among_first [] h = accepts
  among_first (Ok _ ∷ vs) h = among_first vs h.1
  among_first (Err x ∷ vs) h = h.0

-- 1 to 9
sound_numbers : (b : List ℕ) → Among on_a_book (soundness b)
unfolding soundness check1 check2 check3 check4 check5 check6 check7 check8 check9 has
sound_numbers b =
    among_first on_a_book _ (
      among_unless on_a_book _ 1 refl,
      (
        among_unless on_a_book _ 2 refl,
        (
          among_unless on_a_book _ 3 refl,
          (
            among_unless on_a_book _ 4 refl,
            (
              among_first on_a_book _ (among_record on_a_book 5 _ _ _ refl, (among_record on_a_book 5 _ _ _ refl, (among_record on_a_book 5 _ _ _ refl, (among_record on_a_book 5 _ _ _ refl, (among_record on_a_book 5 _ _ _ refl, tt))))),
              (
                among_first on_a_book _ (among_record on_a_book 6 _ _ _ refl, (among_record on_a_book 6 _ _ _ refl, (among_record on_a_book 6 _ _ _ refl, (among_record on_a_book 6 _ _ _ refl, tt)))),
                (among_record on_a_book 7 _ _ _ refl, (among_record on_a_book 8 _ _ _ refl, (among_record on_a_book 9 _ _ _ refl, tt))),
              ),
            ),
          ),
        ),
      ),
    )

-- 17, 18 and 10
pub verdict_numbers : (b t : List ℕ) → Among on_a_book (verdict b t)
unfolding verdict check17 check18 check10 has
verdict_numbers b t =
    among_first on_a_book _ (
      sound_numbers b,
      (
        among_record on_a_book 17 _ _ _ refl,
        (
          among_record on_a_book 18 _ _ _ refl,
          (among_first on_a_book _ (among_record on_a_book 10 _ _ _ refl, (among_record on_a_book 10 _ _ _ refl, tt)), tt),
        ),
      ),
    )

-- 16
pub rows_numbers : (s : List ℕ) → Among on_dispatch_rows (rows_verdict s)
unfolding rows_verdict has
rows_numbers s = among_record on_dispatch_rows 16 _ _ _ refl

-- ---- the calls that write

within_gives : (numbers xs : List ℕ) → Within numbers (gives xs)
within_gives numbers xs number place e = absurd (not_given xs number place e)

within_one : (numbers : List ℕ) (k at₀ : ℕ) → OneOf numbers k → Within numbers (refuses k at₀)
within_one numbers k at₀ h number place e = let same : k ≡ number = cc in rw (← same) h

within_cond : (numbers : List ℕ) (t : Bool) (k : ℕ) (o : Outcome) → OneOf numbers k → Within numbers o → Within numbers (cond t (refuses k 0) o)
within_cond numbers true k o h w = within_one numbers k 0 h
within_cond numbers false k o h w = w

-- a number of any call on a book is one of a length's, and one of a length's is one of a statement's
more : (n : ℕ) → OneOf on_a_book n → OneOf on_a_length n
unfolding has
more n h = or-true (eqb 11 n) _ (or-true (eqb 12 n) _ h)

within_verdict : (v : Verdict) (o : Outcome) → Among on_a_book v → Within on_a_length o → Within on_a_length (outcome_if v o)
unfolding outcome_if
within_verdict (Ok _) o h w = w
within_verdict (Err x) o h w = within_one on_a_length x.number x.place (more x.number (h x.number x.place refl))

-- those of any call on a book, then 11, 12
pub outcome_numbers : (b t : List ℕ) (account : ℕ) → Within on_a_length (outcome b t account)
unfolding outcome settled has
outcome_numbers b t account =
    let L = book_of (locked_for b t) in
    within_verdict (verdict b t) _ (verdict_numbers b t)
    (within_cond on_a_length (unnamed (rows_of_account (book_of b) account) (locked_of L account)) 11 _ refl
    (within_cond on_a_length (any_over (lines_for (book_of b) L account)) 12 _ refl (within_gives on_a_length _)))

also_13 : (n : ℕ) → OneOf on_a_length n → OneOf on_a_statement n
unfolding has
also_13 n h = by (eqb 11 n) (eqb 12 n) (eqb 13 n) _ h
  where
    by : (a b c d : Bool) → (a || (b || d)) ≡ true → (a || (b || (c || d))) ≡ true
    by true b c d e = refl
    by false true c d e = refl
    by false false c d e = or-true c d e

pub statement_call_numbers : (b t : List ℕ) (account : ℕ) → Within on_a_statement (outcome b t account)
statement_call_numbers b t account number place e = also_13 number (outcome_numbers b t account number place e)

-- 14
pub statement_numbers : (s xs : List ℕ) → Within on_rewriting (if_statement s xs)
unfolding has
statement_numbers s xs = by (is_statement s)
  where
    by : (t : Bool) → Within on_rewriting (cond t (gives xs) (refuses 14 0))
    by true = within_gives on_rewriting xs
    by false = within_one on_rewriting 14 0 refl

-- 15, and those of the statement
pub file_numbers : (b t : List ℕ) (account payment_type : ℕ) → Within on_a_file (file_outcome b t account payment_type)
unfolding file_outcome instead has
file_numbers b t account payment_type = by (leb 3 payment_type)
  where
    also : (xs : List ℕ) (o : Outcome) → Within on_a_statement o → Within on_a_file (instead o xs)
    also xs (refuses number place) h = λ n p e. or-true (eqb 15 n) _ (h n p e)
    also xs (gives ys) h = within_gives on_a_file xs

    by : (t₀ : Bool) → Within on_a_file (cond t₀ (refuses 15 0) (instead (outcome b t account) (text_of (file_rows_for (book_of b) (book_of (locked_for b t)) account payment_type))))
    by true = within_one on_a_file 15 0 refl
    by false = also _ (outcome b t account) (statement_call_numbers b t account)
