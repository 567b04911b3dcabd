-- The table of refusals. 01, Refusals, in the order they are looked for: "Each check runs over the whole book before the next number;
-- within it the lowest offset is reported." Each line has the number, where the section starts, the size of its records, the test that a
-- record must pass, and how many records there are.
use Rattle.std.specs.Prelude.{ℕ, List, [], ◌∷◌, Bool, true, false, cond, not, ◌||◌, leb, eqb, length, Ok, Err}
use Rattle.ground.specs.Every.{all_of}
use Rattle.sections.specs.First.{first_bad}
use Rattle.sections.specs.Order.{rises_by}
use Rattle.sections.specs.Refusal.{unless, at_record, first_of, Verdict}
use Rattle.records.specs.declared.rows.Entry.{Entry}
use Rattle.records.specs.declared.rows.Contract.{Contract}
use Rattle.locking.specs.Locking.{settled_by, pick, is_test, reads_locked}
use Rattle.rules.specs.Rules.{entry_ok, constraint_ok, unit_ok, energy_ok, contract_ok, constraint_below, unit_below, energy_below, contract_below}
use Rattle.factors.specs.Naming.{named_at}
use Rattle.factors.specs.Factors.{factors_at}
use Rattle.totals.specs.Sums.{entry_has_sums}
use Rattle.totals.specs.Divisors.{constraint_divides, contract_divides}
use Rattle.book.specs.declared.header.Header.{Header}
use Rattle.book.specs.Header.{book_marked, header_of, in_range, units_from, energies_from, contracts_from, whole_length}
use Rattle.book.specs.Book.{Book, book_of}

-- the number, at the first of the n records that fails the test
abbrev refuse : ℕ → ℕ → ℕ → (ℕ → Bool) → ℕ → Verdict
refuse number offset size test n = at_record number offset size (first_bad test n)

-- "book shorter than 84 bytes"
unfoldable pub check1 : List ℕ → Verdict
check1 b = unless (leb 84 (length b)) 1

-- "mark, version or a reserved header byte wrong"
unfoldable pub check2 : List ℕ → Verdict
check2 b = unless (book_marked b) 2

-- "interval, date, run or a count out of its range"
unfoldable pub check3 : List ℕ → Verdict
check3 b = unless (in_range (header_of b)) 3

-- "length differs from what the counts give"
unfoldable pub check4 : List ℕ → Verdict
check4 b = unless (eqb (length b) (whole_length (header_of b))) 4

-- "a field outside the rules above"
unfoldable pub check5 : Book → Verdict
check5 B =
    first_of (refuse 5 24 12 (λ i. entry_ok (B.entry i)) 5
    ∷ refuse 5 84 40 (λ i. constraint_ok (B.constraint i)) B.header.constraints
    ∷ refuse 5 (units_from B.header) 20 (λ i. unit_ok (B.unit i)) B.header.units
    ∷ refuse 5 (energies_from B.header) 24 (λ i. energy_ok (B.energy i)) B.header.energies
    ∷ refuse 5 (contracts_from B.header) 36 (λ i. contract_ok (B.contract i)) B.header.contracts
    ∷ [])

-- "constraint ids, (constraint, unit) pairs, (account, region) pairs or contract ids not strictly rising"
unfoldable pub check6 : Book → Verdict
check6 B =
    first_of (refuse 6 84 40 (rises_by constraint_below B.constraint) B.header.constraints
    ∷ refuse 6 (units_from B.header) 20 (rises_by unit_below B.unit) B.header.units
    ∷ refuse 6 (energies_from B.header) 24 (rises_by energy_below B.energy) B.header.energies
    ∷ refuse 6 (contracts_from B.header) 36 (rises_by contract_below B.contract) B.header.contracts
    ∷ [])

-- "a unit row names no constraint here, or one of mode 0"
unfoldable pub check7 : Book → Verdict
check7 B = refuse 7 (units_from B.header) 20 (named_at B.constraint B.header.constraints B.unit) B.header.units

-- "factor sums fail"
unfoldable pub check8 : Book → Verdict
check8 B = refuse 8 84 40 (factors_at B.unit B.header.units B.constraint) B.header.constraints

-- "a region entry differs from its rows' sums"
unfoldable pub check9 : Book → Verdict
check9 B = refuse 9 24 12 (entry_has_sums B.energy B.header.energies B.entry) 5

-- 5 to 9, the checks of the records, in order
abbrev pub record_checks : Book → List Verdict
record_checks B = check5 B ∷ check6 B ∷ check7 B ∷ check8 B ∷ check9 B ∷ []

-- 1 to 9: whether the bytes are a sound book, one that stands as it should and whose figures agree; the first that refuses decides
unfoldable pub soundness : List ℕ → Verdict
soundness b = first_of (check1 b ∷ check2 b ∷ check3 b ∷ check4 b ∷ record_checks (book_of b))

-- ---- the locked book, l. 02, Req 04: "Refusals: after 9 and before 10, 17 .., then 18 .., both at the first such contract", of kind 2

abbrev at_test : ℕ → Book → Bool → Verdict
at_test number B holds = refuse number (contracts_from B.header) 36 (λ k. not (is_test (B.contract k)) || holds) B.header.contracts

-- "when a kind 2 contract has no locked book"; "An empty slice is no locked book"
unfoldable pub check17 : Book → List ℕ → Verdict
check17 B l = at_test 17 B (not (eqb (length l) 0))

abbrev pub passes : Verdict → Bool
passes (Ok _) = true
passes (Err e) = false

-- a header of the locked book beside the current book's: "another date or interval, or a later run"
abbrev pub period_tests : Header → Header → List Bool
period_tests locked h = eqb locked.date h.date ∷ eqb locked.interval h.interval ∷ leb locked.run h.run ∷ []

-- "when the locked book fails one of checks 1 to 9, has another date or interval, or a later run": none of these
unfoldable pub locks : Header → List ℕ → Bool
locks h l = all_of (passes (soundness l) ∷ period_tests (header_of l) h)

unfoldable pub check18 : Book → List ℕ → Verdict
check18 B l = at_test 18 B (locks B.header l)

-- 17, then 18
abbrev pub locked_checks : Book → List ℕ → List Verdict
locked_checks B l = check17 B l ∷ check18 B l ∷ []

-- the book that test payments are settled by: "one is read only where a kind 2 contract stands". Where none does it is the current book, which
-- settles all the others: so no other book is read, and no account is named by another
unfoldable pub locked_for : List ℕ → List ℕ → List ℕ
locked_for b l = cond (reads_locked (book_of b).contract (header_of b).contracts) l b

-- ---- "a total to divide by is zero"

-- "Check 10 for kind 2 reads the locked totals": the region entries by which a contract is settled
abbrev pub entries_by : Book → Book → Contract → ℕ → Entry
entries_by B L k = pick (settled_by k) B.entry L.entry

unfoldable pub check10 : Book → Book → Verdict
check10 B L =
    first_of (refuse 10 84 40 (constraint_divides B.entry B.constraint) B.header.constraints
    ∷ refuse 10 (contracts_from B.header) 36 (λ k. contract_divides (entries_by B L (B.contract k)) B.contract k) B.header.contracts
    ∷ [])

-- ---- all of them: the first that refuses decides

unfoldable pub verdict : List ℕ → List ℕ → Verdict
verdict b l = first_of (soundness b ∷ check17 (book_of b) l ∷ check18 (book_of b) l ∷ check10 (book_of b) (book_of (locked_for b l)) ∷ [])
