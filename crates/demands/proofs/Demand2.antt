-- Demand 2: every line is the guide's, every pool closes, and both round trips. Where a call does not refuse, the rules give what it answers, and that is
-- the guide's by the theorems of the crates below. Assumes nothing.
use Rattle.std.specs.Prelude.{Result, Ok, Err}
use Rattle.sections.specs.declared.Refusal.{Refusal}
use Rattle.statement.specs.declared.Heading.{Heading}
use Prim.Native.Nat.{ℕ, ◌*◌, ◌<◌, ◌^◌}
use mathlib.Core.Path.{◌≡◌, refl, sym, ap, ◌∙◌, fun_ext}
use mathlib.Core.Bool.{Bool, true, false, cond}
use mathlib.Core.List.{List}
use native.Mathlib.Omega.{arith}
use lib.ListN.{length}
use borrow.Author.Tests.{lt-leb}
use Rattle.ground.specs.Bytes.{AreBytes}
use Rattle.sections.proofs.First.{first_each}
use Rattle.sections.proofs.Verdicts.{record_held}
use Rattle.sections.specs.Refusal.{Verdict, unrefused}
use Rattle.sections.proofs.Cases.{zero_one}
use Rattle.book.specs.Book.{book_of}
use Rattle.book.specs.Table.{check8, check9, soundness, locked_for, verdict}
use Rattle.book.proofs.Passed.{sound_passed, all_passed}
use Rattle.book.proofs.Promise.{locked_passes}
use Rattle.accounts.specs.Rows.{keep, sum_of, sum_z}
use Rattle.accounts.specs.Account.{public_of, rows_of_account, locked_of}
use Rattle.sharing.specs.Once.{has}
use Rattle.statement.specs.Statement.{statement_bytes}
use Rattle.statement.specs.Lent.{refuses, gives}
use Rattle.statement.specs.declared.Line.{Line}
use Rattle.parsing.specs.Parsing.{heading_at, line_at, lines_in, is_statement}
use Rattle.reading.specs.Calls.{heading_read, line_read}
use Rattle.parsing.proofs.Laid.{laid_length}
use Rattle.parsing.proofs.Trip.{read_and_written}
use Rattle.reading.specs.Rewriting.{rewritten}
use Rattle.unpacking.specs.Unpacking.{all_fields, unpacked}
use Rattle.unpacking.proofs.Fields.{fields_length, fields_pieces}
use Rattle.unpacking.proofs.Handed.{Stands, every_line_stands}
use Rattle.settlement.specs.Settle.{heading_of, statement_of, lines_for, outcome}
use Rattle.balance.specs.Pools.{Pool, Found, past, found, pools_in, pool_at, in_pool}
use Rattle.balance.specs.Balance.{pool_lines, line_count, line_sum, balance_in, answer_to, balances_in, balance_if, balance_of}
use Rattle.balance.proofs.Accounts.{each_account_stands_once}
use Rattle.closing.proofs.Closes.{every_pool_closes}
use Rattle.trips.specs.ReadBack.{ReadBack}
use Rattle.trips.proofs.Call.{passed}
use Rattle.trips.proofs.Trip.{written_and_read}
use Rattle.guide.proofs.Guide.{every_line_is_the_guides}
use Rattle.guide.proofs.Checks.{check_5_is_the_guides, check_8_is_the_guides, check_9_is_the_guides}
use Rattle.answers.specs.Answers.{verdict_answer, heading_answer, entry_answer, pool_answer}
use Rattle.answers.specs.declared.VerdictAnswer.{VerdictAnswer}
use Rattle.answers.specs.declared.WrittenAnswer.{WrittenAnswer}
use Rattle.answers.specs.declared.PoolAnswer.{PoolAnswer}
use Rattle.demands.specs.Demand1.{on_a_statement, on_rewriting}
use Rattle.demands.specs.Demand2.{NumbersAreTheGuides, lines_by_the_guide, guide_heading, guide_statement, accounts_of_both, numbered, StatementIsTheGuides, fields_at, LinesAreTheLineCalls, PoolCloses, EveryLineIsTheGuides}
use Rattle.demands.proofs.Numbers.{verdict_numbers}
use Rattle.demands.proofs.Given.{Given, given, front_is}
use Rattle.demands.proofs.Numbered.{line_numbered}
use Rattle.demands.proofs.LockedBytes.{locked_bytes}
use Rattle.demands.proofs.Demand1.{every_input_is_answered}

never : {A : Type 0} → ◌≡◌ {A = Bool} false true → A
never e = absurd (zero_one cc)

-- ---- the book

-- a sound book passed checks 5, 8 and 9
numbers_of : (b : List ℕ) → AreBytes b → soundness b ≡ unrefused → NumbersAreTheGuides b
unfolding check8 check9
numbers_of b bytes v =
    let c = (sound_passed b v).records in
    record {
      ranges = check_5_is_the_guides b bytes;
      factors = λ j l. (check_8_is_the_guides b bytes c.fields j l).0 (first_each _ _ (record_held _ _ _ _ c.factors) j l);
      energies = λ g l. (check_9_is_the_guides b bytes c.fields g l).0 (first_each _ _ (record_held _ _ _ _ c.sums) g l);
    }

book_numbers : (b t : List ℕ) → AreBytes b → AreBytes t → (v : Verdict) → verdict b t ≡ v → (r : VerdictAnswer) → r ≡ verdict_answer v → r.refusal ≡ 0 → NumbersAreTheGuides b × NumbersAreTheGuides (locked_for b t)
unfolding verdict_answer has
book_numbers b t bytes also (Ok _) v r a z =
    let c = all_passed b t v in
    (numbers_of b bytes c.sound, numbers_of (locked_for b t) (locked_bytes b t bytes also) (locked_passes b t c.sound c.fits))
book_numbers b t bytes also (Err x) v r a z = never (rw (sym (ap (λ (w : VerdictAnswer). w.refusal) a) ∙ z) at (verdict_numbers b t x.number x.place v))

-- ---- the statement

module _ (b t : List ℕ) (bytes : AreBytes b) (also : AreBytes t) (account : ℕ) (small : account < 2 ^ 32) where
  lines_guides : verdict b t ≡ unrefused → lines_for (book_of b) (book_of (locked_for b t)) account ≡ lines_by_the_guide b t account
  lines_guides v = every_line_is_the_guides b t bytes (locked_bytes b t bytes also) v account

  -- what the rules give is the guide's
  guides : (xs : List ℕ) → outcome b t account ≡ gives xs → xs ≡ guide_statement b t account
  unfolding statement_of
  guides xs e =
      let s = passed b t account xs e in
      s.bytes
      ∙ ap (λ (ls : List Line). statement_bytes (heading_of account (public_of (book_of b)) (length ls)) ls) (lines_guides s.book)

  read : (xs : List ℕ) → outcome b t account ≡ gives xs → ReadBack (public_of (book_of b)) (rows_of_account (book_of b) account) (locked_of (book_of (locked_for b t)) account) account xs
  read xs e = written_and_read b t account xs bytes small e

  heading_read_lem : (xs : List ℕ) → outcome b t account ≡ gives xs → heading_read xs ≡ Ok (guide_heading b t account)
  unfolding heading_read
  heading_read_lem xs e =
      let s = passed b t account xs e in
      let back = read xs e in
      rw back.accepted (ap Ok (back.heading ∙ ap (λ (ls : List Line). heading_of account (public_of (book_of b)) (length ls)) (lines_guides s.book)))

  line_read_lem : (xs : List ℕ) → outcome b t account ≡ gives xs → (index : ℕ) → line_read xs index ≡ numbered (lines_by_the_guide b t account) index
  unfolding line_read
  line_read_lem xs e index =
      let s = passed b t account xs e in
      let back = read xs e in
      rw back.accepted
      (line_numbered xs (heading_at xs).lines index
      ∙ ap (λ (ls : List Line). numbered ls index) (back.lines ∙ lines_guides s.book))

  statement_is_the_guides : (l : List ℕ) (r : WrittenAnswer) (x : List ℕ) → Given (outcome b t account) l r x → StatementIsTheGuides b t account l r x
  statement_is_the_guides l r x g =
      let xs = g.bytes in
      let e = g.is in
      let f = front_is xs l r x g.gives_them in
      record {
        bytes = rw (guides xs e) at g.gives_them;
        heading = ap heading_answer (ap heading_read f ∙ heading_read_lem xs e);
        lines = λ index. ap entry_answer (ap (λ (s : List ℕ). line_read s index) f ∙ line_read_lem xs e index);
      }

-- ---- the balance

module _ (b t : List ℕ) (bytes : AreBytes b) (also : AreBytes t) (number : ℕ) where
  pool_closes : (v : verdict b t ≡ unrefused) (p : Pool) → pool_at (pools_in (public_of (book_of b))) number ≡ found p → (r : PoolAnswer) → r ≡ pool_answer (answer_to (book_of b) (book_of (locked_for b t)) (found p)) → PoolCloses b t number r
  unfolding pool_answer answer_to balance_in line_count line_sum pool_lines
  pool_closes v p e r a =
      let guides = fun_ext (λ (account : ℕ). every_line_is_the_guides b t bytes (locked_bytes b t bytes also) v account) in
      record {
        pool = p;
        there = e;
        amount = rw a refl;
        everyone = each_account_stands_once (book_of b) (book_of (locked_for b t));
        lines = rw a (ap (λ (f : ℕ → List Line). sum_of (λ i. length (keep (in_pool p) (f i))) (accounts_of_both b t)) guides);
        sum = rw a (ap (λ (f : ℕ → List Line). sum_z (λ i. sum_z (λ (l : Line). l.amount) (keep (in_pool p) (f i))) (accounts_of_both b t)) guides);
        closes = rw a (every_pool_closes b t v number p e);
      }

  balance_closes : (v : Verdict) → verdict b t ≡ v → (f : Found) → pool_at (pools_in (public_of (book_of b))) number ≡ f → (r : PoolAnswer) → r ≡ pool_answer (balance_if v (answer_to (book_of b) (book_of (locked_for b t)) f)) → r.refusal ≡ 0 → PoolCloses b t number r
  unfolding balance_if answer_to pool_answer has
  balance_closes (Ok _) v past e r a z = absurd (omega (arith, sym (ap (λ (w : PoolAnswer). w.refusal) a) ∙ z))
  balance_closes (Ok _) v (found p) e r a z = pool_closes v p e r a
  balance_closes (Err x) v f e r a z = never (rw (sym (ap (λ (w : PoolAnswer). w.refusal) a) ∙ z) at (verdict_numbers b t x.number x.place v))

-- ---- read and written

rewritten_is : (s : List ℕ) → AreBytes s → (xs : List ℕ) → rewritten s ≡ gives xs → xs ≡ s
unfolding rewritten
rewritten_is s bytes xs e = by (is_statement s) refl e
  where
    by : (t : Bool) → is_statement s ≡ t → cond t (gives (statement_bytes (heading_at s) (lines_in s (heading_at s).lines))) (refuses 14 0) ≡ gives xs → xs ≡ s
    by true t d = let same : statement_bytes (heading_at s) (lines_in s (heading_at s).lines) ≡ xs = cc in sym same ∙ read_and_written s bytes t
    by false t d = absurd (zero_one cc)

-- ---- all lines at once

-- five numbers that are a line's are what the line call answers of it
fields_are : (xs : List ℕ) (i : ℕ) (y : Line) → Stands xs i y → fields_at xs i ≡ entry_answer (Ok y)
unfolding entry_answer
fields_are xs i y h = λ j. record { refusal = 0; place = 0; id = h.id j; part = h.part j; regions = h.regions j; unit = h.unit j; amount = h.amount j }

module _ (s : List ℕ) (bytes : AreBytes s) where
  -- what the rules give where the bytes are a statement
  record Unpacked (xs : List ℕ) : Type 0 where
    holds : is_statement s ≡ true
    all : xs ≡ all_fields (lines_in s (heading_at s).lines)

  unpacked_is : (xs : List ℕ) → unpacked s ≡ gives xs → Unpacked xs
  unfolding unpacked
  unpacked_is xs e = by (is_statement s) refl e
    where
      by : (t : Bool) → is_statement s ≡ t → cond t (gives (all_fields (lines_in s (heading_at s).lines))) (refuses 14 0) ≡ gives xs → Unpacked xs
      by true t d = record { holds = t; all = cc }
      by false t d = absurd (zero_one cc)

  module _ (q : is_statement s ≡ true) where
    counted : (heading_answer (heading_read s)).lines ≡ (heading_at s).lines
    unfolding heading_read heading_answer
    counted =
        let e : heading_read s ≡ Ok (heading_at s) = rw q refl in
        ap (λ (h : Result Heading Refusal). (heading_answer h).lines) e

    line_there : (i : ℕ) → i < (heading_at s).lines → line_read s i ≡ Ok (line_at s i)
    unfolding line_read
    line_there i h = rw (q, lt-leb (heading_at s).lines i h) refl

  lines_are_the_line_calls : (l : List ℕ) (r : WrittenAnswer) (x : List ℕ) → Given (unpacked s) l r x → LinesAreTheLineCalls s r x
  lines_are_the_line_calls l r x g =
      let xs = g.bytes in
      let u = unpacked_is xs g.is in
      let n = (heading_at s).lines in
      let c = counted u.holds in
      record {
        count =
            ap (λ (w : WrittenAnswer). w.length) g.gives_them.answer ∙ ap length u.all ∙ laid_length fields_pieces s 40 fields_length n
            ∙ ap (λ (k : ℕ). k * 40) (sym c);
        lines = λ i h.
            let less : i < n = rw c at h in
            ap (λ (l : List ℕ). fields_at l i) (front_is xs l r x g.gives_them ∙ u.all)
            ∙ fields_are (all_fields (lines_in s n)) i (line_at s i) (every_line_stands s bytes n i less)
            ∙ ap entry_answer (sym (line_there u.holds i less));
      }

-- ---- the demand

pub every_line_and_pool_is_the_guides : EveryLineIsTheGuides
unfolding balance_of balances_in has
every_line_and_pool_is_the_guides =
    record {
      check = λ b t bytes also r a z. book_numbers b t bytes also (verdict b t) refl r a z;
      statement = λ b t bytes also account small l r x c z.
          statement_is_the_guides b t bytes also account small l r x (given on_a_statement (outcome b t account) l r x never (every_input_is_answered.statement b t account l r x c) z);
      balance = λ b t bytes also number r a z. balance_closes b t bytes also number (verdict b t) refl (pool_at (pools_in (public_of (book_of b))) number) refl r a z;
      rewrite = λ s bytes l r x c z.
          let g = given on_rewriting (rewritten s) l r x never (every_input_is_answered.rewrite s l r x c) z in
          rw (rewritten_is s bytes g.bytes g.is) at g.gives_them;
      lines = λ s bytes l r x c z.
          lines_are_the_line_calls s bytes l r x (given on_rewriting (unpacked s) l r x never (every_input_is_answered.lines s l r x c) z);
    }
