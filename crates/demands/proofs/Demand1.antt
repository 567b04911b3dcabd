-- Demand 1: every input gets an answer, and a refusal leaves every byte. Each call's promise fixes its answer; by cases on what the rules fix for the
-- input, it is one of the answers that the demand allows. Assumes nothing.
use Rattle.std.specs.Prelude.{Ok, Err}
use Prim.Native.Nat.{ℕ, zero, suc}
use mathlib.Core.Path.{◌≡◌, refl}
use mathlib.Core.Bool.{Bool, true, false, cond}
use mathlib.Core.List.{List, [], ◌∷◌}
use mathlib.Core.Logic.{inl, inr}
use borrow.Author.Tests.{leb-true, leb-false}
use lib.Dec.{eqb, leb}
use lib.ListN.{length}
use Rattle.ground.specs.Put.{put}
use Rattle.sections.specs.Refusal.{Verdict}
use Rattle.sections.specs.Refusal as verdicts
use Rattle.dispatch.specs.Dispatch.{payment, base_cost, rows_verdict, cost_if}
use Rattle.book.specs.Book.{book_of}
use Rattle.book.specs.Table.{locked_for, verdict}
use Rattle.accounts.specs.Account.{public_of}
use Rattle.sharing.specs.Once.{has}
use Rattle.statement.specs.Lent.{Outcome, refuses, gives, length_for, answer_for, left_in}
use Rattle.statement.specs.Statement.{statement_bytes}
use Rattle.parsing.specs.Parsing.{is_statement, heading_at, line_at, lines_in}
use Rattle.reading.specs.Calls.{heading_read, line_read}
use Rattle.reading.specs.Rewriting.{rewritten}
use Rattle.unpacking.specs.Unpacking.{all_fields, unpacked}
use Rattle.settlement.specs.Settle.{outcome}
use Rattle.ground.specs.Nth.{Nth, nth}
use Rattle.ground.specs.Nth as numbered
use Rattle.nmas.specs.declared.Row.{Row}
use Rattle.nmas_reading.specs.Reading.{TextRead, all, part, rows_read, numbered_row, row_read}
use Rattle.nmas_file.specs.File.{file_outcome}
use Rattle.balance.specs.Pools.{Found, past, found, pools_in, pool_at}
use Rattle.balance.specs.Balance.{answer_to, balances_in, balance_if, balance_of}
use Rattle.cutoffs.specs.Cutoffs.{stages_in, stage_at, cut_for, cuts_in, cut_if, cut_of}
use Rattle.cutoffs.specs.declared.Cut.{Cut}
use Rattle.answers.specs.Answers.{verdict_answer, written_answer, heading_answer, entry_answer, pool_answer, cut_answer, cost_answer, nmas_size_answer, nmas_row_answer, no_row_answer, nmas_entry_answer, Called}
use Rattle.answers.specs.declared.VerdictAnswer.{VerdictAnswer}
use Rattle.answers.specs.declared.WrittenAnswer.{WrittenAnswer}
use Rattle.answers.specs.declared.HeadingAnswer.{HeadingAnswer}
use Rattle.answers.specs.declared.EntryAnswer.{EntryAnswer}
use Rattle.answers.specs.declared.PoolAnswer.{PoolAnswer}
use Rattle.answers.specs.declared.CutAnswer.{CutAnswer}
use Rattle.answers.specs.declared.CostAnswer.{CostAnswer}
use Rattle.answers.specs.declared.NmasSizeAnswer.{NmasSizeAnswer}
use Rattle.answers.specs.declared.NmasEntryAnswer.{NmasEntryAnswer}
use Rattle.demands.specs.Demand1.{on_a_book, on_a_length, on_a_balance, on_a_statement, on_rewriting, on_dispatch_rows, on_a_file, OneOf, Answered, written, short, refused, CheckAnswered, LengthAnswered, PoolAnswered, CutAnswered, HeadingAnswered, EntryAnswered, CostAnswered, NmasSizeAnswered, NmasEntryAnswered, EveryInputIsAnswered}
use Rattle.demands.proofs.Numbers.{Among, Within, verdict_numbers, rows_numbers, outcome_numbers, statement_call_numbers, statement_numbers, file_numbers, or-true}

-- ---- the calls that write

called : (numbers : List ℕ) (o : Outcome) → Within numbers o → OneOf numbers 13 → (l : List ℕ) (r : WrittenAnswer) (x : List ℕ) → Called o l r x → Answered numbers o l r x
unfolding answer_for left_in written_answer
called numbers (refuses number place) h k l r x c = refused number place refl (h number place refl) (record { answer = c.answer; bytes = c.left })
called numbers (gives xs) h k l r x c = by (leb (length xs) (length l)) refl c.answer c.left
  where
    by : (t : Bool) → leb (length xs) (length l) ≡ t → r ≡ written_answer (cond t (Ok (length xs)) (verdicts.refused 13 0)) → x ≡ cond t (put l 0 xs) l → Answered numbers (gives xs) l r x
    by true t a e = written xs refl (record { room = leb-true (length xs) (length l) t; answer = a; bytes = e })
    by false t a e = short xs refl (leb-false (length xs) (length l) t) k (record { answer = a; bytes = e })

-- ---- the calls that only answer

sized : (o : Outcome) → Within on_a_length o → (r : WrittenAnswer) → r ≡ written_answer (length_for o) → LengthAnswered r
unfolding length_for written_answer
sized (refuses number place) h r a = inr (rw a (h number place refl, refl))
sized (gives xs) h r a = inl (rw a (refl, refl))

checked : (b t : List ℕ) (v : Verdict) → verdict b t ≡ v → (r : VerdictAnswer) → r ≡ verdict_answer v → CheckAnswered b t r
unfolding verdict_answer
checked b t (Ok _) e r a = inl (e, a)
checked b t (Err x) e r a = inr (rw a (e, verdict_numbers b t x.number x.place e))

-- a number of any call on a book is one of a balance's
more : (n : ℕ) → OneOf on_a_book n → OneOf on_a_balance n
unfolding has
more n h = or-true (eqb 15 n) _ h

pooled : (b t : List ℕ) (v : Verdict) → verdict b t ≡ v → (f : Found) (r : PoolAnswer) → r ≡ pool_answer (balance_if v (answer_to (book_of b) (book_of (locked_for b t)) f)) → PoolAnswered r
unfolding pool_answer balance_if answer_to has
pooled b t (Ok _) e past r a = inr (rw a (refl, refl))
pooled b t (Ok _) e (found p) r a = inl (rw a (refl, refl))
pooled b t (Err x) e f r a = inr (rw a (more x.number (verdict_numbers b t x.number x.place e), refl))

-- what a stage cut off, or 15
staged : (cs : List Cut) (index : ℕ) (r : CutAnswer) → r ≡ cut_answer (stage_at cs index) → CutAnswered r
unfolding cut_answer stage_at has
staged [] index r a = inr (rw a (refl, refl))
staged (c ∷ cs) zero r a = inl (rw a (refl, refl))
staged (c ∷ cs) (suc index) r a = staged cs index r a

cut_off : (b t : List ℕ) (v : Verdict) → verdict b t ≡ v → (f : Found) (index : ℕ) (r : CutAnswer) → r ≡ cut_answer (cut_if v (cut_for (book_of b) (book_of (locked_for b t)) f index)) → CutAnswered r
unfolding cut_answer cut_if cut_for has
cut_off b t (Ok _) e past index r a = inr (rw a (refl, refl))
cut_off b t (Ok _) e (found p) index r a = staged (stages_in (book_of b) (book_of (locked_for b t)) p) index r a
cut_off b t (Err x) e f index r a = inr (rw a (more x.number (verdict_numbers b t x.number x.place e), refl))

header_answered : (t : Bool) (s : List ℕ) (r : HeadingAnswer) → r ≡ heading_answer (cond t (Ok (heading_at s)) (verdicts.refused 14 0)) → HeadingAnswered r
unfolding heading_answer has
header_answered true s r a = inl (rw a (refl, refl))
header_answered false s r a = inr (rw a (refl, refl))

line_answered : (t past₀ : Bool) (s : List ℕ) (index : ℕ) (r : EntryAnswer) → r ≡ entry_answer (cond t (cond past₀ (verdicts.refused 15 0) (Ok (line_at s index))) (verdicts.refused 14 0)) → EntryAnswered r
unfolding entry_answer has
line_answered true true s index r a = inr (rw a (refl, refl))
line_answered true false s index r a = inl (rw a (refl, refl))
line_answered false past₀ s index r a = inr (rw a (refl, refl))

costed : (v : Verdict) → Among on_dispatch_rows v → (amount : ℕ) (r : CostAnswer) → r ≡ cost_answer (cost_if v amount) → CostAnswered r
unfolding cost_answer cost_if
costed (Ok _) h amount r a = inl (rw a (refl, refl))
costed (Err x) h amount r a = inr (rw a (h x.number x.place refl, refl))

-- ---- a reconciliation file that is read

rows_answered : {s : List ℕ} (t : TextRead s) (r : NmasSizeAnswer) → r ≡ nmas_size_answer (rows_read t) → NmasSizeAnswered r
unfolding nmas_size_answer rows_read has
rows_answered (all rs t) r a = inl (rw a (refl, refl))
rows_answered (part rs t) r a = inr (rw a (refl, refl))

numbered_answered : (n : Nth Row) (r : NmasEntryAnswer) → r ≡ nmas_entry_answer (numbered_row n) → NmasEntryAnswered r
unfolding nmas_entry_answer nmas_row_answer no_row_answer numbered_row has
numbered_answered (numbered.found x) r a = inl (rw a (refl, refl))
numbered_answered (numbered.past k) r a = inr (rw a (refl, refl))

row_answered : {s : List ℕ} (t : TextRead s) (index : ℕ) (r : NmasEntryAnswer) → r ≡ nmas_entry_answer (row_read t index) → NmasEntryAnswered r
unfolding nmas_entry_answer no_row_answer row_read has
row_answered (all rs t) index r a = numbered_answered (nth rs index) r a
row_answered (part rs t) index r a = inr (rw a (refl, refl))

-- ---- the demand

pub every_input_is_answered : EveryInputIsAnswered
unfolding balance_of balances_in cut_of cuts_in heading_read line_read rewritten unpacked payment base_cost has
every_input_is_answered =
    record {
      check = λ b t. checked b t (verdict b t) refl;
      statement = λ b t account. called on_a_statement (outcome b t account) (statement_call_numbers b t account) refl;
      length = λ b t account. sized (outcome b t account) (outcome_numbers b t account);
      balance = λ b t number. pooled b t (verdict b t) refl (pool_at (pools_in (public_of (book_of b))) number);
      cutoff = λ b t number. cut_off b t (verdict b t) refl (pool_at (pools_in (public_of (book_of b))) number);
      header = λ s. header_answered (is_statement s) s;
      line = λ s index. line_answered (is_statement s) (leb (heading_at s).lines index) s index;
      rewrite = λ s. called on_rewriting (rewritten s) (statement_numbers s (statement_bytes (heading_at s) (lines_in s (heading_at s).lines))) refl;
      lines = λ s. called on_rewriting (unpacked s) (statement_numbers s (all_fields (lines_in s (heading_at s).lines))) refl;
      payment = λ s service. costed (rows_verdict s) (rows_numbers s) _;
      base_cost = λ s id service. costed (rows_verdict s) (rows_numbers s) _;
      file = λ b t account payment_type. called on_a_file (file_outcome b t account payment_type) (file_numbers b t account payment_type) refl;
      rows = λ s r c. rows_answered c.reading r c.answer;
      row = λ s index r c. row_answered c.reading index r c.answer;
    }
