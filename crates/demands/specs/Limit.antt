-- 02, Req 07: "Staff are trained on number 12 and no book has given it. Show that no accepted book reaches it". 12 is "a line would pass 50,000,000,000
-- either way". A line is a rounded share of a pool, by a factor or an own energy that is no larger than the whole, and every pool is within the limit.
use Rattle.std.specs.Prelude.{ℕ, ◌≡◌, cond, List}
use Rattle.ground.specs.Inner.Each.{Each}
use Rattle.sections.specs.Refusal.{unrefused}
use Rattle.book.specs.Book.{book_of}
use Rattle.book.specs.Table.{locked_for, verdict}
use Rattle.accounts.specs.Account.{Public, Rows, LockedPart, public_of, rows_of_account, locked_of, unnamed}
use Rattle.statement.specs.Lent.{Outcome, refuses, gives}
use Rattle.lines.specs.Limit.{WithinLimit}
use Rattle.settlement.specs.Settle.{statement_of, lines_for, outcome_if, outcome}

-- ---- what the calls on an account would answer by the table without 12

unfoldable pub settled_without12 : ℕ → Public → Rows → LockedPart → Outcome
settled_without12 account public rows locked = cond (unnamed rows locked) (refuses 11 0) (gives (statement_of account public rows locked))

unfoldable pub outcome_without12 : List ℕ → List ℕ → ℕ → Outcome
outcome_without12 b locked account =
    outcome_if (verdict b locked)
    (settled_without12 account (public_of (book_of b)) (rows_of_account (book_of b) account) (locked_of (book_of (locked_for b locked)) account))

-- ---- the theorem

pub record NoLinePassesTheLimit : Type 0 where
  -- of every accepted book, whatever is lent as the locked one, and of every account, named by a row or not
  pub lines : (b locked : List ℕ) (account : ℕ) → verdict b locked ≡ unrefused → Each WithinLimit (lines_for (book_of b) (book_of (locked_for b locked)) account)
  -- so on any bytes the table with 12 and the table without it come to the same
  pub unchanged : (b locked : List ℕ) (account : ℕ) → outcome b locked account ≡ outcome_without12 b locked account
