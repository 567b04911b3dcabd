-- The reconciliation file of an account, written from an accepted book. 02, Req 05: "Write one account's contract rows as comma-separated text,
-- one line for each contract and benefiting region in statement order".
use Rattle.std.specs.Prelude.{ℕ, ◌+◌, cond, List, [], ◌∷◌, eqb, leb, nat_abs}
use Rattle.rules.specs.Rules.{factor_of}
use Rattle.records.specs.declared.rows.Entry.{Entry}
use Rattle.records.specs.declared.rows.Contract.{Contract}
use Rattle.locking.specs.Locking.{settled_by, pick}
use Rattle.book.specs.Book.{Book, book_of}
use Rattle.book.specs.Table.{locked_for}
use Rattle.amounts.specs.Pools.{halves_of}
use Rattle.accounts.specs.Rows.{joined, concat_map}
use Rattle.accounts.specs.Account.{Public, Rows, LockedPart, public_of, rows_of_account, locked_of, own_energy}
use Rattle.statement.specs.Lent.{Outcome, refuses, gives}
use Rattle.lines.specs.Lines.{ace_line, asoe_line}
use Rattle.settlement.specs.Settle.{entry_in, settled_in, outcome}
use Rattle.nmas.specs.Rows.{text_of}
use Rattle.nmas.specs.declared.Row.{Row}
use Rattle.nmas_file.specs.declared.Head.{Head}

-- ---- rows; total and own are a region's and the account's energy, by region

-- what all rows of a file have in common: "Version is the run, period the interval, the date YYYYMMDD", and "PAYMENTTYPE is one of that
-- document's three as the caller chooses"
abbrev pub head_of : ℕ → Public → ℕ → Head
head_of account public payment_type =
    record { date = public.date; run = public.run; interval = public.interval; account = account; payment_type = payment_type }

-- the size of what the account's line by ACE, and the one by ASOE, says of contract k in region g: "recovery amounts keep our lines' sign"
abbrev pub size_by_ace : (ℕ → Entry) → (ℕ → Entry) → Contract → ℕ → ℕ
size_by_ace total own k g =
    nat_abs (ace_line k.id g (halves_of k.payment (factor_of k.factors g)) (own g).ace (total g).ace).amount

abbrev pub size_by_asoe : (ℕ → Entry) → (ℕ → Entry) → Contract → ℕ → ℕ
size_by_asoe total own k g =
    nat_abs (asoe_line k.id g (halves_of k.payment (factor_of k.factors g)) (own g).asoe (total g).asoe).amount

-- the row of contract k in region g
abbrev pub row_with : Head → (ℕ → Entry) → (ℕ → Entry) → Contract → ℕ → Row
row_with head total own k g =
    record {
      date = head.date;
      run = head.run;
      interval = head.interval;
      account = head.account;
      contract = k.id;
      payment_type = head.payment_type;
      region = g;
      factor = factor_of k.factors g;
      payment = k.payment;
      recovery = size_by_ace total own k g + size_by_asoe total own k g;
      own_ace = (own g).ace;
      region_ace = (total g).ace;
      own_asoe = (own g).asoe;
      region_asoe = (total g).asoe;
      by_ace = size_by_ace total own k g;
      by_asoe = size_by_asoe total own k g;
    }

-- of an account, by the public part of a book and a payment type
abbrev pub row_in : ℕ → Public → ℕ → (ℕ → Entry) → (ℕ → Entry) → Contract → ℕ → Row
row_in account public payment_type = row_with (head_of account public payment_type)

-- "one line for each contract and benefiting region": no row where the benefit factor is 0
unfoldable pub region_rows : Head → (ℕ → Entry) → (ℕ → Entry) → Contract → ℕ → List Row
region_rows head total own k g = cond (eqb (factor_of k.factors g) 0) [] (row_with head total own k g ∷ [])

-- a contract's rows, its regions rising
abbrev pub contract_rows : Head → (ℕ → Entry) → (ℕ → Entry) → Contract → List Row
contract_rows head total own k = joined (region_rows head total own k) 5

-- Req 04: "Kind 2 contracts therefore take energies and region totals from a second book, the locked one; kind 1 from the current one."
unfoldable pub rows_by : ℕ → Public → Rows → LockedPart → ℕ → Contract → List Row
rows_by account public rows locked payment_type k =
    contract_rows (head_of account public payment_type)
    (pick (settled_by k) (entry_in public.entries) (entry_in locked.entries))
    (pick (settled_by k) (own_energy rows.energies) (own_energy locked.rows.energies)) k

-- all rows of an account, "in statement order"
unfoldable pub file_rows : ℕ → Public → Rows → LockedPart → ℕ → List Row
file_rows account public rows locked payment_type = concat_map (rows_by account public rows locked payment_type) public.contracts

-- of an account of the book B, where L is the book that test payments are settled by
abbrev pub file_rows_for : Book → Book → ℕ → ℕ → List Row
file_rows_for B L account payment_type =
    file_rows account (public_of B) (rows_of_account B account) (locked_of L account) payment_type

-- ---- what the call answers, and what it leaves: `answer_for` and `left_in` of this (statement/specs/Lent.antt)

-- "writing gives those of the statement call, 13 by the text's length": where that gives bytes, the text stands in their place
unfoldable pub instead : Outcome → List ℕ → Outcome
instead (refuses number place) xs = refuses number place
instead (gives _) xs = gives xs

-- of an account of the book B, where L is the book that test payments are settled by
abbrev pub file_in : Book → Book → ℕ → ℕ → Outcome
file_in B L account payment_type = instead (settled_in B L account) (text_of (file_rows_for B L account payment_type))

-- of the book b, with l lent as the locked one. A payment type that is none of the three is 15, at 0, before all others.
unfoldable pub file_outcome : List ℕ → List ℕ → ℕ → ℕ → Outcome
file_outcome b l account payment_type =
    cond (leb 3 payment_type) (refuses 15 0)
    (instead (outcome b l account) (text_of (file_rows_for (book_of b) (book_of (locked_for b l)) account payment_type)))
