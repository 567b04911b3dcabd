-- Two books that differ and agree for an account, each with a locked book, which differ and agree too, so that demand 3 speaks of something. Each is of
-- 8 June 2025, interval 1, run 2, and has energy in region 0 only: constraint 1, contingency raise of cost 30; constraint 2, factored, of cost 1,000,
-- half of it used, with an FPP pool of 10; constraint 3, default, of cost 600; contract 5, ordinary, and contract 6, a test, of payment 100 each. In both,
-- account 7 has unit 1 of constraints 2 and 3, ACE -1 and ASOE 2. In the first, account 9 has all the rest. In the second, accounts 9 and 10 have it,
-- with a unit row and an energy row more. The locked books are of run 1, and have energy rows alone: account 7 has ACE -2 and ASOE 1; the rest is
-- account 9's in the first, and that of accounts 10 and 11 in the second. And a book with a line as large as a line can be. Assumes nothing.
use Prim.Native.Nat.{ℕ}
use mathlib.Core.Path.{◌≡◌, refl, ap}
use mathlib.Core.List.{List, [], ◌∷◌, ◌++◌}
use native.Mathlib.Omega.{arith}
use lib.IntN.{ℤ}
use lib.ListN.{length}
use Rattle.ground.specs.Le.{le16, le32, le64, int64}
use Rattle.numbers.specs.Sizes.{above_of, below_of}
use Rattle.sections.specs.First.{and_then, first_bad}
use Rattle.sections.specs.Order.{rises_by}
use Rattle.sections.specs.Refusal.{unless, at_record, earlier, first_of, unrefused}
use Rattle.sections.specs.Search.{all, some}
use Rattle.sections.specs.Total.{total, keyed}
use Rattle.calendar.specs.Calendar.{days_in, is_date, is_period}
use Rattle.records.specs.Rows.{entry_row, constraint_row, unit_row, energy_row, contract_row}
use Rattle.market.specs.Kinds.{basis_of, mode_with}
use Rattle.rules.specs.Rules.{terms_ok, mode_fits, shares_ok}
use Rattle.factors.specs.Naming.{named_at}
use Rattle.factors.specs.Factors.{factors_at}
use Rattle.totals.specs.Divisors.{counted_in, constraint_divides, contract_divides}
use Rattle.totals.specs.Sums.{entry_has_sums}
use Rattle.locking.specs.Locking.{source_of, reads_locked}
use Rattle.book.specs.Header.{header_of}
use Rattle.book.specs.Book.{book_of}
use Rattle.book.specs.Table.{soundness, locks, locked_for, verdict, check1, check2, check3, check4, check5, check6, check7, check8, check9, check17, check18, check10}
use Rattle.amounts.specs.Pools.{pools_by_mode, residual_pools, halves_of}
use Rattle.amounts.specs.Shares.{by_energy, by_factor}
use Rattle.accounts.specs.Rows.{rows_of, keep, sum_of, concat_map, joined}
use Rattle.accounts.specs.Account.{public_of, rows_of_account, locked_of, own_energy}
use Rattle.statement.specs.declared.Line.{Line}
use Rattle.lines.specs.Lines.{unit_lines, rest_lines, region_lines}
use Rattle.settlement.specs.Settle.{entry_in, of_constraint, constraint_lines, contract_lines, lines_by, lines_of, lines_for}
use Rattle.cases.specs.Cases.{plus, minus}
use Rattle.cases.specs.Written.{int32}
use Rattle.cases.specs.Written as written
use Rattle.demands.specs.Demand3.{Agree}

-- ---- what the two books share

-- a region with no energy; region 0 has ACE -3, ASOE 6, residual 9
abbrev nothing : List ℕ
nothing = written.entry_bytes (plus 0) (plus 0) (plus 0)

abbrev regions : List ℕ
regions = written.entry_bytes (minus 3) (plus 6) (plus 9) ++ nothing ++ nothing ++ nothing ++ nothing

-- contingency raise; factored, with price 120, RCR 10, usage 500,000, RCF -400,000, DRCF -500,000; default, with DRCF -500,000
abbrev constraints : List ℕ
constraints =
    written.constraint_bytes 1 1 1 0 (plus 30) 0 0 0 (plus 0) (plus 0)
    ++ written.constraint_bytes 2 9 1 1 (plus 1000) 120 10 500_000 (minus 400_000) (minus 500_000)
    ++ written.constraint_bytes 3 10 1 2 (plus 600) 0 0 0 (plus 0) (minus 500_000)

-- an ordinary one and a test payment, all of their benefit in region 0
abbrev contracts : List ℕ
contracts = written.contract_bytes 5 1 (plus 100) 1_000_000 0 0 0 0 ++ written.contract_bytes 6 2 (plus 100) 1_000_000 0 0 0 0

-- account 7's rows
abbrev own_factored : List ℕ
own_factored = written.unit_bytes 2 1 7 (plus 300_000) (minus 100_000)

abbrev own_default : List ℕ
own_default = written.unit_bytes 3 1 7 (plus 0) (minus 200_000)

-- an energy row in region 0, all of it residual
abbrev energy : ℕ → ℕ → ℕ → List ℕ
energy account ace asoe = written.energy_bytes account 0 (minus ace) (plus asoe) (minus ace) (plus asoe)

-- ---- the two books

abbrev pub book_a : List ℕ
book_a =
    written.header_bytes 1 20250608 2 3 5 2 2
    ++ regions
    ++ constraints
    ++ own_factored
    ++ written.unit_bytes 2 2 9 (plus 700_000) (plus 0)
    ++ written.unit_bytes 2 3 9 (minus 600_000) (minus 400_000)
    ++ own_default
    ++ written.unit_bytes 3 3 9 (plus 0) (minus 300_000)
    ++ energy 7 1 2
    ++ energy 9 2 4
    ++ contracts

abbrev pub book_b : List ℕ
book_b =
    written.header_bytes 1 20250608 2 3 6 3 2
    ++ regions
    ++ constraints
    ++ own_factored
    ++ written.unit_bytes 2 2 9 (plus 400_000) (plus 0)
    ++ written.unit_bytes 2 4 10 (plus 300_000) (minus 100_000)
    ++ written.unit_bytes 2 5 10 (minus 600_000) (minus 300_000)
    ++ own_default
    ++ written.unit_bytes 3 4 10 (plus 0) (minus 300_000)
    ++ energy 7 1 2
    ++ energy 9 1 2
    ++ energy 10 1 2
    ++ contracts

-- ---- and their locked books; region 0 has ACE -4, ASOE 6, residual 10

abbrev locked_regions : List ℕ
locked_regions = written.entry_bytes (minus 4) (plus 6) (plus 10) ++ nothing ++ nothing ++ nothing ++ nothing

abbrev pub locked_a : List ℕ
locked_a = written.header_bytes 1 20250608 1 0 0 2 0 ++ locked_regions ++ energy 7 2 1 ++ energy 9 2 5

abbrev pub locked_b : List ℕ
locked_b = written.header_bytes 1 20250608 1 0 0 3 0 ++ locked_regions ++ energy 7 2 1 ++ energy 10 1 3 ++ energy 11 1 2

-- the books differ, and so do the locked ones: the second has rows more
pub books_differ : book_a ≡ book_b → ⊥
unfolding le16 le32 le64 int32 int64
books_differ e = let p : length book_a ≡ length book_b = ap length e in omega arith

pub locked_books_differ : locked_a ≡ locked_b → ⊥
unfolding le16 le32 le64 int32 int64
locked_books_differ e = let p : length locked_a ≡ length locked_b = ap length e in omega arith

pub two_pairs_agree : Agree book_a locked_a book_b locked_b 7
unfolding le16 le32 le64 int32 int64 soundness verdict check1 check2 check3 check4 check5 check6 check7 check8 check9 check17 check18 check10 locks locked_for source_of reads_locked first_of earlier unless at_record first_bad and_then header_of is_period is_date days_in entry_row constraint_row unit_row energy_row contract_row above_of below_of mode_with terms_ok mode_fits shares_ok all some named_at factors_at basis_of counted_in constraint_divides contract_divides rises_by entry_has_sums total keyed public_of rows_of_account locked_of rows_of keep
two_pairs_agree = record { first = refl; second = refl; public = refl; own = refl; locked = record { read = λ e. refl } }

-- the first reads its locked book
pub locked_is_read : locked_for book_a locked_a ≡ locked_a
unfolding le16 le32 le64 int32 int64 header_of contract_row some reads_locked locked_for
locked_is_read = refl

-- ---- what both give account 7

abbrev line : ℕ → ℕ → ℕ → ℤ → Line
line id part unit amount = record { id = id; part = part; regions = 1; unit = unit; amount = amount }

-- contingency 30 x 2 / 6. Factored: FPP 10 x 0.3, used nothing, unused 500 x -0.1; of the residual pools -4, -200 and -250 a third. Default: 600 x -0.2,
-- and a third of -300. Ordinary: of each half of 50 a third. Test: by the locked energies, of the half by ACE a half, of the half by ASOE a sixth.
pub a_statement : lines_for (book_of book_a) (book_of locked_a) 7 ≡ line 1 2 0 (minus 10) ∷ line 2 3 1 (plus 3) ∷ line 2 4 1 (plus 0) ∷ line 2 5 1 (minus 50) ∷ line 2 6 0 (minus 1) ∷ line 2 7 0 (minus 67) ∷ line 2 8 0 (minus 83) ∷ line 3 5 1 (minus 120) ∷ line 3 8 0 (minus 100) ∷ line 5 9 0 (minus 17) ∷ line 5 10 0 (minus 17) ∷ line 6 9 0 (minus 25) ∷ line 6 10 0 (minus 8) ∷ []
unfolding le16 le32 le64 int32 int64 header_of entry_row constraint_row unit_row energy_row contract_row above_of below_of mode_with basis_of counted_in total public_of rows_of_account locked_of rows_of keep sum_of concat_map joined own_energy pools_by_mode residual_pools halves_of by_energy by_factor unit_lines rest_lines entry_in of_constraint constraint_lines region_lines contract_lines source_of lines_by lines_of
a_statement = refl

-- ---- a line just at the limit: account 7 has all the energy, and the cost of the one constraint is at its limit

abbrev pub book_at_limit : List ℕ
book_at_limit =
    written.header_bytes 1 20250608 2 1 0 1 0 ++ regions ++ written.constraint_bytes 1 1 1 0 (plus 50_000_000_000) 0 0 0 (plus 0) (plus 0) ++ energy 7 3 6

pub at_limit_accepted : verdict book_at_limit [] ≡ unrefused
unfolding le16 le32 le64 int32 int64 soundness verdict check1 check2 check3 check4 check5 check6 check7 check8 check9 check17 check18 check10 source_of reads_locked locked_for first_of earlier unless at_record first_bad and_then header_of is_period is_date days_in entry_row constraint_row unit_row energy_row contract_row above_of below_of mode_with terms_ok mode_fits all some named_at factors_at basis_of counted_in constraint_divides contract_divides rises_by entry_has_sums total keyed
at_limit_accepted = refl

pub at_limit_line : lines_for (book_of book_at_limit) (book_of (locked_for book_at_limit [])) 7 ≡ line 1 2 0 (minus 50_000_000_000) ∷ []
unfolding le16 le32 le64 int32 int64 reads_locked locked_for some header_of entry_row constraint_row unit_row energy_row contract_row above_of below_of mode_with basis_of counted_in total public_of rows_of_account locked_of rows_of keep sum_of concat_map joined own_energy by_energy entry_in constraint_lines lines_by lines_of
at_limit_line = refl
