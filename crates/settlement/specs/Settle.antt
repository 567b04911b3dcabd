-- The statement of an account. It takes three things only: the public part of a book, the account's own rows, and, of the book that test payments
-- are settled by, the region totals and the account's own rows. 01, The amounts, The statement; 02, Req 04.
use Rattle.std.specs.Prelude.{Ok, Err, ℕ, zero, suc, cond, List, [], ◌∷◌, ◌++◌, eqb, length}
use Rattle.sections.specs.Refusal.{Verdict}
use Rattle.records.specs.declared.rows.Entry.{Entry}
use Rattle.records.specs.declared.rows.Constraint.{Constraint}
use Rattle.records.specs.declared.rows.UnitRow.{UnitRow}
use Rattle.records.specs.declared.rows.Contract.{Contract}
use Rattle.totals.specs.Divisors.{over_regions}
use Rattle.locking.specs.Locking.{settled_by, pick}
use Rattle.book.specs.Book.{Book, book_of}
use Rattle.book.specs.Table.{locked_for, verdict}
use Rattle.amounts.specs.Pools.{pools_of, residual_pools}
use Rattle.accounts.specs.Rows.{joined, concat_map}
use Rattle.accounts.specs.Account.{Public, Rows, LockedPart, public_of, rows_of_account, locked_of, own_energy, unnamed}
use Rattle.statement.specs.Statement.{statement_bytes}
use Rattle.statement.specs.Lent.{Outcome, refuses, gives}
use Rattle.statement.specs.declared.Heading.{Heading}
use Rattle.statement.specs.declared.Line.{Line}
use Rattle.lines.specs.Lines.{contingency_line, unit_lines, rest_lines, region_lines}
use Rattle.lines.specs.Limit.{any_over}

-- ---- lines; total and own are a region's and the account's energy, by region

-- the entry of region g
unfoldable pub entry_in : List Entry → ℕ → Entry
entry_in [] g = record { ace = 0; asoe = 0; residual = 0 }
entry_in (e ∷ es) zero = e
entry_in (e ∷ es) (suc g) = entry_in es g

-- a unit row's lines, where it names the constraint
unfoldable pub of_constraint : Constraint → UnitRow → List Line
of_constraint r q = cond (eqb q.constraint r.id) (unit_lines r (pools_of r) q) []

-- "for mode 0 one line, 1 or 2; else own units in row order (3, 4, 5; mode 2 only 5), then 6, 7, 8 (mode 2 only 8)"
unfoldable pub constraint_lines : (ℕ → Entry) → (ℕ → Entry) → List UnitRow → Constraint → List Line
constraint_lines total own units r =
    cond (eqb r.mode 0) (contingency_line r (over_regions own r) (over_regions total r) ∷ [])
    (concat_map (of_constraint r) units ++ rest_lines r (residual_pools r (pools_of r)) (over_regions own r) (over_regions total r))

-- "Then contracts, each benefiting region rising, 9 then 10."
unfoldable pub contract_lines : (ℕ → Entry) → (ℕ → Entry) → Contract → List Line
contract_lines total own k = joined (region_lines total own k) 5

-- "Kind 2 contracts therefore take energies and region totals from a second book, the locked one; kind 1 from the current one."
unfoldable pub lines_by : Public → Rows → LockedPart → Contract → List Line
lines_by public rows locked k =
    contract_lines (pick (settled_by k) (entry_in public.entries) (entry_in locked.entries))
    (pick (settled_by k) (own_energy rows.energies) (own_energy locked.rows.energies)) k

-- "Constraints in book order", then contracts
unfoldable pub lines_of : Public → Rows → LockedPart → List Line
lines_of public rows locked =
    concat_map (constraint_lines (entry_in public.entries) (own_energy rows.energies) rows.units) public.constraints
    ++ concat_map (lines_by public rows locked) public.contracts

-- ---- the statement

abbrev pub heading_of : ℕ → Public → ℕ → Heading
heading_of account public n = record { account = account; date = public.date; interval = public.interval; run = public.run; lines = n }

unfoldable pub statement_of : ℕ → Public → Rows → LockedPart → List ℕ
statement_of account public rows locked =
    statement_bytes (heading_of account public (length (lines_of public rows locked))) (lines_of public rows locked)

-- ---- what the two calls answer, and what the one that writes leaves: `length_for`, `answer_for` and `left_in` of this (statement/specs/Lent.antt)

-- 11: "no book read names the account"; 12: "a line would pass 50,000,000,000 either way"
unfoldable pub settled : ℕ → Public → Rows → LockedPart → Outcome
settled account public rows locked =
    cond (unnamed rows locked) (refuses 11 0)
    (cond (any_over (lines_of public rows locked)) (refuses 12 0) (gives (statement_of account public rows locked)))

-- of an account of the book B, where L is the book that test payments are settled by
abbrev pub settled_in : Book → Book → ℕ → Outcome
settled_in B L account = settled account (public_of B) (rows_of_account B account) (locked_of L account)

abbrev pub lines_for : Book → Book → ℕ → List Line
lines_for B L account = lines_of (public_of B) (rows_of_account B account) (locked_of L account)

-- "Numbers 1 to 10 come from every call on a book." And so do 17 and 18.
unfoldable pub outcome_if : Verdict → Outcome → Outcome
outcome_if (Ok _) o = o
outcome_if (Err e) o = refuses e.number e.place

-- of the book b, with l lent as the locked one
unfoldable pub outcome : List ℕ → List ℕ → ℕ → Outcome
outcome b l account = outcome_if (verdict b l) (settled_in (book_of b) (book_of (locked_for b l)) account)
