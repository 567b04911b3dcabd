-- The reconciliation file beside the statement, and written and read. 02, Req 05: "recovery amounts keep our lines' sign"; "read after write gives the
-- same rows, and one row has one spelling".
use Rattle.std.specs.Prelude.{ℕ, ◌<◌, ◌^◌, ◌≡◌, List, ◌++◌, length}
use Rattle.ground.specs.Bytes.{AreBytes}
use Rattle.ground.specs.Nth.{nth}
use Rattle.ground.specs.Inner.Each.{Each}
use Rattle.book.specs.Book.{book_of}
use Rattle.book.specs.Table.{locked_for}
use Rattle.accounts.specs.Rows.{concat_map}
use Rattle.accounts.specs.Account.{public_of, rows_of_account, own_energy}
use Rattle.statement.specs.declared.Line.{Line}
use Rattle.settlement.specs.Settle.{entry_in, constraint_lines, lines_for}
use Rattle.nmas.specs.Rows.{text_of, RowFine}
use Rattle.nmas.specs.declared.Row.{Row}
use Rattle.nmas_reading.specs.Reading.{numbered_row}
use Rattle.nmas_file.specs.File.{file_rows_for}
use Rattle.nmas_file.specs.Lines.{row_lines}
use Rattle.answers.specs.Answers.{nmas_entry_answer, SizeCalled, EntryCalled}
use Rattle.answers.specs.declared.WrittenAnswer.{WrittenAnswer}
use Rattle.answers.specs.declared.NmasSizeAnswer.{NmasSizeAnswer}
use Rattle.answers.specs.declared.NmasEntryAnswer.{NmasEntryAnswer}
use Rattle.demands.specs.Demand1.{FileCall}
use Rattle.demands.specs.Demand2.{front}

-- the rows of an account's file, with these bytes lent as the locked book
abbrev pub rows_of_file : List ℕ → List ℕ → ℕ → ℕ → List Row
rows_of_file b locked account payment_type = file_rows_for (book_of b) (book_of (locked_for b locked)) account payment_type

-- the account's lines of constraints, and those of contracts: two of each row, parts 9 and 10, whose amounts are its RECOVERYAMOUNT_ACE and
-- RECOVERYAMOUNT_ASOE
abbrev pub lines_by_rows : List ℕ → List ℕ → ℕ → ℕ → List Line
lines_by_rows b locked account payment_type =
    concat_map (constraint_lines (entry_in (public_of (book_of b)).entries) (own_energy (rows_of_account (book_of b) account).energies) (rows_of_account (book_of b) account).units) (public_of (book_of b)).constraints
    ++ concat_map row_lines (rows_of_file b locked account payment_type)

-- a file that was written, read: as many rows, and each of them
pub record WrittenAndRead (b locked : List ℕ) (account payment_type : ℕ) (r : WrittenAnswer) (x : List ℕ) : Type 0 where
  pub rows : (q : NmasSizeAnswer) → SizeCalled (front r x) q → q ≡ record { refusal = 0; place = 0; rows = length (rows_of_file b locked account payment_type) }
  pub row : (index : ℕ) (q : NmasEntryAnswer) → EntryCalled (front r x) index q → q ≡ nmas_entry_answer (numbered_row (nth (rows_of_file b locked account payment_type) index))

-- a text that was read: it is, byte for byte, the spelling of its rows
pub record ReadAndWritten (s : List ℕ) (q : NmasSizeAnswer) : Type 0 where
  pub read : List Row
  pub count : q.rows ≡ length read
  pub text : text_of read ≡ s
  pub row : (index : ℕ) (e : NmasEntryAnswer) → EntryCalled s index e → e ≡ nmas_entry_answer (numbered_row (nth read index))

pub record FileIsTheStatements : Type 0 where
  -- the file and the statement can't disagree: the statement's lines are made of the file's rows
  pub lines : (b locked : List ℕ) (account payment_type : ℕ) → lines_for (book_of b) (book_of (locked_for b locked)) account ≡ lines_by_rows b locked account payment_type
  -- "read after write gives the same rows"
  pub written : (b locked : List ℕ) → AreBytes b → (account : ℕ) → account < 2 ^ 32 → (payment_type : ℕ) (l : List ℕ) (r : WrittenAnswer) (x : List ℕ)
      → FileCall b locked account payment_type l r x → r.refusal ≡ 0 → WrittenAndRead b locked account payment_type r x
  pub read : (s : List ℕ) (q : NmasSizeAnswer) → SizeCalled s q → q.refusal ≡ 0 → ReadAndWritten s q
  -- "one row has one spelling", and one spelling is of one row
  pub once : (ps qs : List Row) → Each RowFine ps → Each RowFine qs → text_of ps ≡ text_of qs → ps ≡ qs
