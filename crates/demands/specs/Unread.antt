-- 02, Req 04: "An empty slice is no locked book, and one is read only where a kind 2 contract stands." Where none stands the second slice is not read
-- at all: any two of them, empty, noise or a book, give the same answers and leave the same bytes.
use Rattle.std.specs.Prelude.{ℕ, ◌≡◌, false, List}
use Rattle.locking.specs.Locking.{reads_locked}
use Rattle.book.specs.Header.{header_of}
use Rattle.book.specs.Book.{book_of}
use Rattle.book.specs.Table.{verdict}
use Rattle.balance.specs.Balance.{balance_of}
use Rattle.answers.specs.Answers.{verdict_answer, pool_answer}
use Rattle.answers.specs.declared.VerdictAnswer.{VerdictAnswer}
use Rattle.answers.specs.declared.WrittenAnswer.{WrittenAnswer}
use Rattle.answers.specs.declared.PoolAnswer.{PoolAnswer}
use Rattle.answers.specs.declared.CutAnswer.{CutAnswer}
use Rattle.demands.specs.Demand1.{LengthCall, CutoffCall, StatementCall, FileCall}
use Rattle.demands.specs.Demand3.{Same}

-- the book has no contract of kind 2
abbrev pub NoTestPayment : List ℕ → Type 0
NoTestPayment b = reads_locked (book_of b).contract (header_of b).contracts ≡ false

-- r, and what the buffer holds then, are from a call with t lent as the locked book, s from the same call with u
pub record LockedOnlyWhereRead : Type 0 where
  pub check : (b t u : List ℕ) → NoTestPayment b → (r s : VerdictAnswer) → r ≡ verdict_answer (verdict b t) → s ≡ verdict_answer (verdict b u) → r ≡ s
  pub length : (b t u : List ℕ) → NoTestPayment b → (account : ℕ) (r s : WrittenAnswer) → LengthCall b t account r → LengthCall b u account s → r ≡ s
  pub statement : (b t u : List ℕ) → NoTestPayment b → (account : ℕ) (l : List ℕ) (r s : WrittenAnswer) (x y : List ℕ)
      → StatementCall b t account l r x → StatementCall b u account l s y → Same r s x y
  pub balance : (b t u : List ℕ) → NoTestPayment b → (number : ℕ) (r s : PoolAnswer) → r ≡ pool_answer (balance_of b t number)
      → s ≡ pool_answer (balance_of b u number) → r ≡ s
  pub cutoff : (b t u : List ℕ) → NoTestPayment b → (number index : ℕ) (r s : CutAnswer) → CutoffCall b t number index r → CutoffCall b u number index s → r ≡ s
  pub file : (b t u : List ℕ) → NoTestPayment b → (account payment_type : ℕ) (l : List ℕ) (r s : WrittenAnswer) (x y : List ℕ)
      → FileCall b t account payment_type l r x → FileCall b u account payment_type l s y → Same r s x y
