-- What it means that a statement is read back: the reader accepts its bytes, and they say the header and the lines that were settled.
use Rattle.std.specs.Prelude.{ℕ, ◌≡◌, true, List, length}
use Rattle.accounts.specs.Account.{Public, Rows, LockedPart}
use Rattle.parsing.specs.Parsing.{heading_at, lines_in, is_statement}
use Rattle.settlement.specs.Settle.{lines_of, heading_of}

-- xs are the bytes of the statement of an account, from the public part of a book, the account's own rows and what it rests on in the book that
-- test payments are settled by
pub record ReadBack (public : Public) (rows : Rows) (locked : LockedPart) (account : ℕ) (xs : List ℕ) : Type 0 where
  -- "A statement is read exactly when its mark and version are right, .."
  pub accepted : is_statement xs ≡ true
  -- account, date, interval, run and the number of lines: "interval, date and run as in the book"
  pub heading : heading_at xs ≡ heading_of account public (length (lines_of public rows locked))
  -- each line with its id, part, regions, unit and amount, "in their order"
  pub lines : lines_in xs (heading_at xs).lines ≡ lines_of public rows locked
