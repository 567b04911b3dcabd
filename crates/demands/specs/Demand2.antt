-- Demand 2. "Every line is the guide's, to the stated rounding, sign included. Each pool's lines over all accounts miss its amount by no more
-- than the stated half units. A statement written and read gives the same lines; read and written, the same bytes."
use Rattle.std.specs.Prelude.{Result, Ok, ℕ, zero, suc, ◌+◌, ◌*◌, ◌≤◌, ◌<◌, ◌^◌, ◌≡◌, cond, not, List, [], ◌∷◌, pos, nat_abs, ◌+ℤ◌, length}
use Rattle.sections.specs.declared.Refusal.{Refusal}
use Rattle.sections.specs.Refusal.{refused}
use Rattle.ground.specs.Bytes.{AreBytes, part, u64_at, i64_at}
use Rattle.book.specs.Header.{header_of}
use Rattle.book.specs.Book.{book_of}
use Rattle.book.specs.Table.{locked_for, verdict}
use Rattle.accounts.specs.Rows.{keep, sum_of, sum_z}
use Rattle.accounts.specs.Account.{public_of, rows_of_account, locked_of, unnamed}
use Rattle.sharing.specs.Once.{times}
use Rattle.statement.specs.Statement.{statement_bytes}
use Rattle.statement.specs.declared.Heading.{Heading}
use Rattle.statement.specs.declared.Line.{Line}
use Rattle.reading.specs.Calls.{heading_read, line_read}
use Rattle.settlement.specs.Settle.{heading_of}
use Rattle.balance.specs.Pools.{Pool, found, pools_in, pool_at, in_pool}
use Rattle.balance.specs.Balance.{accounts_of, balance_of}
use Rattle.guide.specs.Signed.{signed_book}
use Rattle.guide.specs.Guide.{guide_lines}
use Rattle.guide.specs.Checks.{RangesAgree, FactorSums, EntrySums}
use Rattle.answers.specs.Answers.{verdict_answer, heading_answer, entry_answer, pool_answer}
use Rattle.answers.specs.declared.VerdictAnswer.{VerdictAnswer}
use Rattle.answers.specs.declared.WrittenAnswer.{WrittenAnswer}
use Rattle.answers.specs.declared.EntryAnswer.{EntryAnswer}
use Rattle.answers.specs.declared.PoolAnswer.{PoolAnswer}
use Rattle.demands.specs.Demand1.{Gives, StatementCall, RewriteCall, LinesCall}

-- ---- the statement

-- the guide's lines of an account, with these bytes lent as the locked book
abbrev pub lines_by_the_guide : List ℕ → List ℕ → ℕ → List Line
lines_by_the_guide b locked account = guide_lines b (locked_for b locked) account

-- the header of an account's statement: "interval, date and run as in the book", and how many lines the guide gives it
abbrev pub guide_heading : List ℕ → List ℕ → ℕ → Heading
guide_heading b locked account = heading_of account (public_of (book_of b)) (length (lines_by_the_guide b locked account))

-- an account's statement: that header, and the guide's lines
abbrev pub guide_statement : List ℕ → List ℕ → ℕ → List ℕ
guide_statement b locked account = statement_bytes (guide_heading b locked account) (lines_by_the_guide b locked account)

-- line i of a list: "numbered from 0"; 15 past the end
unfoldable pub numbered : List Line → ℕ → Result Line Refusal
numbered [] i = refused 15 0
numbered (l ∷ ls) zero = Ok l
numbered (l ∷ ls) (suc i) = numbered ls i

-- what a call left in the buffer that it says it wrote
abbrev pub front : WrittenAnswer → List ℕ → List ℕ
front r x = part x 0 r.length

pub record StatementIsTheGuides (b locked : List ℕ) (account : ℕ) (l : List ℕ) (r : WrittenAnswer) (x : List ℕ) : Type 0 where
  -- "every line is the guide's", and so is the header
  pub bytes : Gives (guide_statement b locked account) l r x
  -- "a statement written and read gives the same lines": what the header call and the line call then answer of it
  pub heading : heading_answer (heading_read (front r x)) ≡ heading_answer (Ok (guide_heading b locked account))
  pub lines : (index : ℕ) → entry_answer (line_read (front r x) index) ≡ entry_answer (numbered (lines_by_the_guide b locked account) index)

-- ---- all lines of a statement at once

-- place i of an array of fervolatro_fields that stands in xs, as the line call would answer it: five numbers of 64 bits, the last with a sign
abbrev pub fields_at : List ℕ → ℕ → EntryAnswer
fields_at xs i =
    record {
      refusal = 0;
      place = 0;
      id = u64_at xs (i * 40);
      part = u64_at xs (i * 40 + 8);
      regions = u64_at xs (i * 40 + 16);
      unit = u64_at xs (i * 40 + 24);
      amount = i64_at xs (i * 40 + 32);
    }

-- "a statement written and read gives the same lines", all at once as one by one: as many as the header call says, each what the line call answers
pub record LinesAreTheLineCalls (s : List ℕ) (r : WrittenAnswer) (x : List ℕ) : Type 0 where
  pub count : r.length ≡ (heading_answer (heading_read s)).lines * 40
  pub lines : (index : ℕ) → index < (heading_answer (heading_read s)).lines → fields_at (front r x) index ≡ entry_answer (line_read s index)

-- ---- the balance

-- an account's lines in a pool
abbrev pub guide_lines_in : List ℕ → List ℕ → Pool → ℕ → List Line
guide_lines_in b locked p account = keep (in_pool p) (lines_by_the_guide b locked account)

-- 02, Req 04: "balances are over the accounts of both books"
abbrev pub accounts_of_both : List ℕ → List ℕ → List ℕ
accounts_of_both b locked = accounts_of (book_of b) (book_of (locked_for b locked))

-- 01, Balance: "Amount plus sum is at most half a unit of money per line, and one half more for a regulation or FPP pool, or one half more
-- per benefiting region for a contract, in size": so many half units
abbrev pub half_units : Pool → ℕ → ℕ
half_units p lines = lines + p.stages

pub record PoolCloses (b locked : List ℕ) (number : ℕ) (r : PoolAnswer) : Type 0 where
  pub pool : Pool
  pub there : pool_at (pools_in (public_of (book_of b))) number ≡ found pool
  pub amount : r.amount ≡ pos pool.amount
  -- "all accounts (each that 11 lets pass)": each stands there once
  pub everyone : (account : ℕ) → times account (accounts_of_both b locked)
      ≡ cond (not (unnamed (rows_of_account (book_of b) account) (locked_of (book_of (locked_for b locked)) account))) 1 0
  -- "how many lines all accounts have in that pool, and their sum"
  pub lines : r.lines ≡ sum_of (λ a. length (guide_lines_in b locked pool a)) (accounts_of_both b locked)
  pub sum : r.sum ≡ sum_z (λ a. sum_z (λ (l : Line). l.amount) (guide_lines_in b locked pool a)) (accounts_of_both b locked)
  pub closes : 2 * nat_abs (r.amount +ℤ r.sum) ≤ half_units pool r.lines

-- ---- the book

-- the numbers of an accepted book are the papers': check 5's ranges are those of the signed numbers, and checks 8 and 9 are the papers' sums,
-- of the factors of each constraint with its units', and of the energies of each region with its rows'
pub record NumbersAreTheGuides (b : List ℕ) : Type 0 where
  pub ranges : RangesAgree (book_of b) (signed_book b)
  pub factors : (j : ℕ) → j < (header_of b).constraints → FactorSums (signed_book b) ((signed_book b).constraint j)
  pub energies : (g : ℕ) → g < 5 → EntrySums (signed_book b) g

-- ---- the demand, of what the calls promise where they do not refuse

pub record EveryLineIsTheGuides : Type 0 where
  -- of the book, and of the one that test payments are settled by
  pub check : (b locked : List ℕ) → AreBytes b → AreBytes locked → (r : VerdictAnswer) → r ≡ verdict_answer (verdict b locked) → r.refusal ≡ 0
      → NumbersAreTheGuides b × NumbersAreTheGuides (locked_for b locked)
  pub statement : (b locked : List ℕ) → AreBytes b → AreBytes locked → (account : ℕ) → account < 2 ^ 32 → (l : List ℕ) (r : WrittenAnswer) (x : List ℕ)
      → StatementCall b locked account l r x → r.refusal ≡ 0 → StatementIsTheGuides b locked account l r x
  pub balance : (b locked : List ℕ) → AreBytes b → AreBytes locked → (number : ℕ) (r : PoolAnswer) → r ≡ pool_answer (balance_of b locked number)
      → r.refusal ≡ 0 → PoolCloses b locked number r
  -- "read and written, the same bytes"
  pub rewrite : (s : List ℕ) → AreBytes s → (l : List ℕ) (r : WrittenAnswer) (x : List ℕ) → RewriteCall s l r x → r.refusal ≡ 0 → Gives s l r x
  pub lines : (s : List ℕ) → AreBytes s → (l : List ℕ) (r : WrittenAnswer) (x : List ℕ) → LinesCall s l r x → r.refusal ≡ 0
      → LinesAreTheLineCalls s r x
