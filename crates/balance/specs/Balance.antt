-- The balance of a pool. 01, Balance: "It answers the amount to recover (0 for FPP), how many lines all accounts (each that 11 lets pass) have in
-- that pool, and their sum."
use Rattle.std.specs.Prelude.{ℕ, List, ℤ, pos, length, Result, Ok, Err}
use Rattle.sections.specs.Refusal.{Verdict, refused}
use Rattle.sections.specs.declared.Refusal.{Refusal}
use Rattle.book.specs.Book.{Book, book_of}
use Rattle.book.specs.Table.{locked_for, verdict}
use Rattle.accounts.specs.Rows.{keep, sum_of, sum_z}
use Rattle.accounts.specs.Account.{public_of}
use Rattle.sharing.specs.Accounts.{accounts_with, accounts_in}
use Rattle.statement.specs.declared.Line.{Line}
use Rattle.settlement.specs.Settle.{lines_for}
use Rattle.balance.specs.Pools.{Pool, Found, past, found, pools_in, pool_at, in_pool}
use Rattle.balance.specs.declared.Balance.{Balance}

-- ---- L is the book that test payments are settled by

-- 02, Req 04: "balances are over the accounts of both books"; each stands once
abbrev pub accounts_of : Book → Book → List ℕ
accounts_of B L =
    accounts_with L.energy L.header.energies L.unit L.header.units
    (accounts_in B.energy B.header.energies B.unit B.header.units)

-- an account's lines in a pool: those of its statement
unfoldable pub pool_lines : Book → Book → Pool → ℕ → List Line
pool_lines B L p account = keep (in_pool p) (lines_for B L account)

-- "how many lines all accounts have in that pool"
unfoldable pub line_count : Book → Book → Pool → ℕ
line_count B L p = sum_of (λ a. length (pool_lines B L p a)) (accounts_of B L)

-- "and their sum"
unfoldable pub line_sum : Book → Book → Pool → ℤ
line_sum B L p = sum_z (λ a. sum_z (λ (l : Line). l.amount) (pool_lines B L p a)) (accounts_of B L)

unfoldable pub balance_in : Book → Book → Pool → Balance
balance_in B L p = record { amount = pos p.amount; lines = line_count B L p; sum = line_sum B L p }

-- 15: "pool or line number past the end"
unfoldable pub answer_to : Book → Book → Found → Result Balance Refusal
answer_to B L past = refused 15 0
answer_to B L (found p) = Ok (balance_in B L p)

-- the balance of the pool of a number in an accepted book
unfoldable pub balances_in : Book → Book → ℕ → Result Balance Refusal
balances_in B L number = answer_to B L (pool_at (pools_in (public_of B)) number)

-- "Numbers 1 to 10 come from every call on a book. A statement then looks for 11, 12, 13, a balance for 15." 17 and 18 come from every call too.
unfoldable pub balance_if : Verdict → Result Balance Refusal → Result Balance Refusal
balance_if (Ok _) x = x
balance_if (Err e) x = Err e

-- of the book b, with l lent as the locked one
unfoldable pub balance_of : List ℕ → List ℕ → ℕ → Result Balance Refusal
balance_of b l number = balance_if (verdict b l) (balances_in (book_of b) (book_of (locked_for b l)) number)
