-- The cases that the document works out, each beside what the definitions of the statement give for the worked interval's bytes.
-- 01, Proved cases: "rounding of 1/2, -1/2, 3/2, -7/4, 1/4 gives 1, -1, 2, -2, 0; the FPP pool 7,391,250; used 5,584,520; unused 8,376,780;
-- unit 3's FPP line 221,738; residual lines -27,717, -20,942, -26,177." And 02, Req 01: "Document 001's raise regulation prices and enablement
-- are a test: 17,474,333".
use Rattle.std.specs.Prelude.{ℕ, ◌≡◌, List, [], ◌∷◌, ◌++◌, true, false, ℤ, Result, Ok}
use Rattle.numbers.specs.Sign.{signed}
use Rattle.dispatch.specs.Dispatch.{payment, base_cost}
use Rattle.sections.specs.declared.Refusal.{Refusal}
use Rattle.book.specs.Book.{book_of}
use Rattle.book.specs.Table.{locked_for}
use Rattle.amounts.specs.declared.pools.Pools.{Pools}
use Rattle.amounts.specs.Pools.{pools_of}
use Rattle.amounts.specs.Shares.{by_energy}
use Rattle.statement.specs.declared.Line.{Line}
use Rattle.settlement.specs.Settle.{lines_for}
use Rattle.cases.specs.Written.{header_bytes, entry_bytes, constraint_bytes, unit_bytes, energy_bytes, dispatch_bytes}

-- a number above 0 and one below it, as the document writes them
abbrev pub plus : ℕ → ℤ
plus n = signed false n

abbrev pub minus : ℕ → ℤ
minus n = signed true n

-- ---- 01, Worked interval: "Book of 272 bytes: date 20250608, interval 1, run 1."

-- its bytes, as books/worked.book has them
abbrev pub worked : List ℕ
worked =
    (82 ∷ 67 ∷ 66 ∷ 0 ∷ 1 ∷ 0 ∷ 1 ∷ 0 ∷ 240 ∷ 255 ∷ 52 ∷ 1 ∷ 1 ∷ 0 ∷ 1 ∷ 0 ∷ 5 ∷ 0 ∷ 2 ∷ 0 ∷ 0 ∷ 0 ∷ 0 ∷ 0 ∷ [])
    ++ (40 ∷ 131 ∷ 240 ∷ 255 ∷ 40 ∷ 237 ∷ 8 ∷ 0 ∷ 0 ∷ 106 ∷ 24 ∷ 0 ∷ [])
    ++ (0 ∷ 0 ∷ 0 ∷ 0 ∷ 0 ∷ 0 ∷ 0 ∷ 0 ∷ 0 ∷ 0 ∷ 0 ∷ 0 ∷ [])
    ++ (0 ∷ 0 ∷ 0 ∷ 0 ∷ 0 ∷ 0 ∷ 0 ∷ 0 ∷ 0 ∷ 0 ∷ 0 ∷ 0 ∷ [])
    ++ (0 ∷ 0 ∷ 0 ∷ 0 ∷ 0 ∷ 0 ∷ 0 ∷ 0 ∷ 0 ∷ 0 ∷ 0 ∷ 0 ∷ [])
    ++ (0 ∷ 0 ∷ 0 ∷ 0 ∷ 0 ∷ 0 ∷ 0 ∷ 0 ∷ 0 ∷ 0 ∷ 0 ∷ 0 ∷ [])
    ++ (244 ∷ 1 ∷ 0 ∷ 0 ∷ 9 ∷ 1 ∷ 1 ∷ 0 ∷ 84 ∷ 8 ∷ 213 ∷ 0 ∷ 0 ∷ 0 ∷ 0 ∷ 0 ∷ 127 ∷ 38 ∷ 0 ∷ 0 ∷ [])
    ++ (144 ∷ 95 ∷ 1 ∷ 0 ∷ 128 ∷ 26 ∷ 6 ∷ 0 ∷ 32 ∷ 108 ∷ 251 ∷ 255 ∷ 112 ∷ 47 ∷ 252 ∷ 255 ∷ 0 ∷ 0 ∷ 0 ∷ 0 ∷ [])
    ++ (244 ∷ 1 ∷ 0 ∷ 0 ∷ 1 ∷ 0 ∷ 0 ∷ 0 ∷ 7 ∷ 0 ∷ 0 ∷ 0 ∷ 128 ∷ 56 ∷ 1 ∷ 0 ∷ 192 ∷ 99 ∷ 255 ∷ 255 ∷ [])
    ++ (244 ∷ 1 ∷ 0 ∷ 0 ∷ 2 ∷ 0 ∷ 0 ∷ 0 ∷ 7 ∷ 0 ∷ 0 ∷ 0 ∷ 224 ∷ 177 ∷ 255 ∷ 255 ∷ 240 ∷ 216 ∷ 255 ∷ 255 ∷ [])
    ++ (244 ∷ 1 ∷ 0 ∷ 0 ∷ 3 ∷ 0 ∷ 0 ∷ 0 ∷ 7 ∷ 0 ∷ 0 ∷ 0 ∷ 48 ∷ 117 ∷ 0 ∷ 0 ∷ 0 ∷ 0 ∷ 0 ∷ 0 ∷ [])
    ++ (244 ∷ 1 ∷ 0 ∷ 0 ∷ 4 ∷ 0 ∷ 0 ∷ 0 ∷ 9 ∷ 0 ∷ 0 ∷ 0 ∷ 144 ∷ 148 ∷ 13 ∷ 0 ∷ 0 ∷ 0 ∷ 0 ∷ 0 ∷ [])
    ++ (244 ∷ 1 ∷ 0 ∷ 0 ∷ 5 ∷ 0 ∷ 0 ∷ 0 ∷ 9 ∷ 0 ∷ 0 ∷ 0 ∷ 192 ∷ 159 ∷ 245 ∷ 255 ∷ 160 ∷ 81 ∷ 245 ∷ 255 ∷ [])
    ++ (7 ∷ 0 ∷ 0 ∷ 0 ∷ 0 ∷ 0 ∷ 0 ∷ 0 ∷ 104 ∷ 197 ∷ 255 ∷ 255 ∷ 136 ∷ 19 ∷ 0 ∷ 0 ∷ 104 ∷ 197 ∷ 255 ∷ 255 ∷ 136 ∷ 19 ∷ 0 ∷ 0 ∷ [])
    ++ (9 ∷ 0 ∷ 0 ∷ 0 ∷ 0 ∷ 0 ∷ 0 ∷ 0 ∷ 192 ∷ 189 ∷ 240 ∷ 255 ∷ 160 ∷ 217 ∷ 8 ∷ 0 ∷ 192 ∷ 189 ∷ 240 ∷ 255 ∷ 160 ∷ 217 ∷ 8 ∷ 0 ∷ [])

-- the fields that the document gives. "Constraint 500, service 9, regions 1, mode 1, cost 13,961,300, price 9,855, RCR 90,000, usage 400,000, RCF
-- -300,000, DRCF -250,000. Units (account; CF; DCF): 1 (7; 80,000; -40,000), 2 (7; -20,000; -10,000), 3 (7; 30,000; 0), 4 (9; 890,000; 0), 5 (9;
-- -680,000; -700,000). Energy in region 0, all residual: account 7, ACE -15,000, ASOE 5,000; account 9, -1,000,000 and 580,000."
abbrev pub worked_fields : List ℕ
worked_fields =
    header_bytes 1 20250608 1 1 5 2 0
    ++ entry_bytes (minus 1_015_000) (plus 585_000) (plus 1_600_000)
    ++ entry_bytes (plus 0) (plus 0) (plus 0)
    ++ entry_bytes (plus 0) (plus 0) (plus 0)
    ++ entry_bytes (plus 0) (plus 0) (plus 0)
    ++ entry_bytes (plus 0) (plus 0) (plus 0)
    ++ constraint_bytes 500 9 1 1 (plus 13_961_300) 9855 90_000 400_000 (minus 300_000) (minus 250_000)
    ++ unit_bytes 500 1 7 (plus 80_000) (minus 40_000)
    ++ unit_bytes 500 2 7 (minus 20_000) (minus 10_000)
    ++ unit_bytes 500 3 7 (plus 30_000) (plus 0)
    ++ unit_bytes 500 4 9 (plus 890_000) (plus 0)
    ++ unit_bytes 500 5 9 (minus 680_000) (minus 700_000)
    ++ energy_bytes 7 0 (minus 15_000) (plus 5000) (minus 15_000) (plus 5000)
    ++ energy_bytes 9 0 (minus 1_000_000) (plus 580_000) (minus 1_000_000) (plus 580_000)

-- the pools of its constraint
abbrev pub worked_pools : Pools
worked_pools = pools_of ((book_of worked).constraint 0)

-- account 7's lines. The book has no contract, and no locked book is lent
abbrev pub worked_lines : List Line
worked_lines = lines_for (book_of worked) (book_of (locked_for worked [])) 7

-- a line of the listing: constraint 500 in region 0, a part, a unit, and the amount in ten-thousandths of a dollar
abbrev pub listed : ℕ → ℕ → ℤ → Line
listed part unit amount = record { id = 500; part = part; regions = 1; unit = unit; amount = amount }

-- ---- document 001, tables 11 to 14: raise regulation, in cents and hundredths of a MW

-- payment rows by the regions' prices, then F_T+RREG (here constraint 1) in TAS1 and F_TASCAP_RREG (2) in the other regions by their marginal values
abbrev pub raise_regulation : List ℕ
raise_regulation =
    dispatch_bytes 0 9 0 9881 5000
    ++ dispatch_bytes 0 9 1 9881 6000
    ++ dispatch_bytes 0 9 2 9881 0
    ++ dispatch_bytes 0 9 3 8343 5000
    ++ dispatch_bytes 0 9 4 9881 6000
    ++ dispatch_bytes 1 9 3 8317 5000
    ++ dispatch_bytes 2 9 0 9855 5000
    ++ dispatch_bytes 2 9 1 9855 6000
    ++ dispatch_bytes 2 9 2 9855 0
    ++ dispatch_bytes 2 9 4 9855 6000

-- ---- the table, in the documents' order

-- what a definition gives, and what the document says
pub data Case : Type 0 where
  number : ℤ → ℤ → Case
  lines : List Line → List Line → Case
  bytes : List ℕ → List ℕ → Case
  cost : Result ℕ Refusal → Result ℕ Refusal → Case

-- a quotient, rounded as a share of a pool is: credit - charge over a total
abbrev pub quotient : ℕ → ℕ → ℕ → ℤ
quotient credit charge total = by_energy credit charge 1 total

abbrev pub table : List Case
table =
    number (quotient 1 0 2) (plus 1)
    ∷ number (quotient 0 1 2) (minus 1)
    ∷ number (quotient 3 0 2) (plus 2)
    ∷ number (quotient 0 7 4) (minus 2)
    ∷ number (quotient 1 0 4) (plus 0)
    ∷ bytes worked worked_fields
    ∷ number (plus worked_pools.fpp) (plus 7_391_250)
    ∷ number (plus worked_pools.used) (plus 5_584_520)
    ∷ number (plus worked_pools.unused) (plus 8_376_780)
    ∷ lines worked_lines (listed 3 1 (plus 591_300)
    ∷ listed 4 1 (plus 0)
    ∷ listed 5 1 (minus 335_071)
    ∷ listed 3 2 (minus 147_825)
    ∷ listed 4 2 (minus 111_690)
    ∷ listed 5 2 (minus 83_768)
    ∷ listed 3 3 (plus 221_738)
    ∷ listed 4 3 (plus 0)
    ∷ listed 5 3 (plus 0)
    ∷ listed 6 0 (minus 27_717)
    ∷ listed 7 0 (minus 20_942)
    ∷ listed 8 0 (minus 26_177)
    ∷ [])
    ∷ cost (payment raise_regulation 9) (Ok 17_474_333)
    ∷ cost (base_cost raise_regulation 1 9) (Ok 3_465_417)
    ∷ cost (base_cost raise_regulation 2 9) (Ok 13_961_250)
    ∷ []

abbrev pub Holds : Case → Type 0
Holds (number what is) = what ≡ is
Holds (lines what is) = what ≡ is
Holds (bytes what is) = what ≡ is
Holds (cost what is) = what ≡ is

-- every case of a table holds
abbrev pub AllHold : List Case → Type 0
AllHold [] = Unit
AllHold (c ∷ cs) = Holds c × AllHold cs
