-- What a sound book and an accepted book promise, for whoever builds on them: no check need be opened again.
use Rattle.std.specs.Prelude.{ℕ, ◌≤◌, ◌<◌, ◌≡◌, true, false, ◌&&◌, cond, List, eqb, length}
use Rattle.sections.specs.Total.{total}
use Rattle.calendar.specs.Calendar.{is_period}
use Rattle.market.specs.declared.Basis.{Basis}
use Rattle.rules.specs.Rules.{factor_of}
use Rattle.records.specs.declared.rows.Entry.{Entry}
use Rattle.records.specs.declared.rows.UnitRow.{UnitRow}
use Rattle.records.specs.declared.rows.EnergyRow.{EnergyRow}
use Rattle.factors.specs.Inner.Facts.{Owner, Whole, Plain}
use Rattle.factors.specs.Factors.{sum_over}
use Rattle.totals.specs.Sums.{entry_by, row_by, entry_with, sum_in}
use Rattle.totals.specs.Inner.Facts.{SumsTo, Funded}
use Rattle.totals.specs.Divisors.{over_regions}
use Rattle.book.specs.Header.{header_of, whole_length}
use Rattle.locking.specs.Locking.{reads_locked}
use Rattle.book.specs.declared.header.Header.{Header}
use Rattle.book.specs.Book.{Book, book_in, book_of}
use Rattle.book.specs.Table.{entries_by, locked_for}
use Rattle.book.specs.Inner.Facts.{Few, Fields, Ordered, Named}

-- the sum of a number over the energy rows of one account in one region
unfoldable pub own_total : Book → ℕ → ℕ → (EnergyRow → ℕ) → ℕ
own_total B account g f =
    total (λ i. cond (eqb (B.energy i).account account && eqb (B.energy i).region g) (f (B.energy i)) 0) B.header.energies

-- an account's own energy in a region, x, is at most the region's total, of each kind
pub record AtMostEntry (e x : Entry) : Type 0 where
  pub each : (b : Basis) → entry_by b x ≤ entry_by b e

-- an account's own energy in region g is at most the region's
abbrev pub OwnAtMost : Book → ℕ → ℕ → Type 0
OwnAtMost B account g = AtMostEntry (B.entry g) (entry_with (λ b. own_total B account g (row_by b)))

-- the sum of a number over the unit rows of constraint j
abbrev pub unit_total : Book → ℕ → (UnitRow → ℕ) → ℕ
unit_total B j f = sum_over B.unit B.header.units (B.constraint j).id f

-- constraint j's factors with its units' make one, or in default mode there are none but default factors
abbrev pub WholeAt : Book → ℕ → Type 0
WholeAt B j = Whole (B.constraint j) (unit_total B j (λ r. r.pcf)) (unit_total B j (λ r. r.ncf)) (unit_total B j (λ r. r.dcf))

abbrev pub PlainAt : Book → ℕ → Type 0
PlainAt B j = Plain (B.constraint j) (unit_total B j (λ r. r.pcf)) (unit_total B j (λ r. r.ncf)) (unit_total B j (λ r. r.dcf))

-- region g's entry is the sum of its rows
abbrev pub EntrySumsAt : Book → ℕ → Type 0
EntrySumsAt B g = SumsTo (B.entry g) (sum_in B.energy B.header.energies g)

-- what checks 1 to 9 promise of a book's records
pub record Sound (B : Book) : Type 0 where
  -- the counts are small, and date, interval and run are in range
  pub few : Few B.header
  pub period : is_period B.header.interval B.header.date B.header.run ≡ true
  -- each record keeps its rule
  pub fields : Fields B
  -- each section rises
  pub ordered : Ordered B
  -- each unit row has its constraint, and not one of mode 0
  pub owner : (u : ℕ) → u < B.header.units → Owner B.constraint B.header.constraints B.unit u
  -- and hence a walk over both sections misses no unit row
  pub named : Named B
  -- the factors of a factored constraint are whole
  pub factored : (j : ℕ) → j < B.header.constraints → (B.constraint j).mode ≡ 1 → WholeAt B j
  -- one in default mode has no factors, and its default factors are whole
  pub default : (j : ℕ) → j < B.header.constraints → (B.constraint j).mode ≡ 2 → PlainAt B j
  -- a region's entry is the sum of its rows
  pub entry : (g : ℕ) → g < 5 → EntrySumsAt B g
  -- and hence an account's own energy never passes the region's total
  pub own : (account g : ℕ) → g < 5 → OwnAtMost B account g

-- and of its bytes: a sound book, one that checks 1 to 9 let through
pub record SoundBook (b : List ℕ) : Type 0 where
  pub long : length b ≡ whole_length (header_of b)
  pub sound : Sound (book_of b)

-- s is the book that the test payments of b are settled by, where h is its header and l was lent as the locked one
pub record SettlesTests (b : List ℕ) (h : Header) (l s : List ℕ) : Type 0 where
  pub bytes : s ≡ cond (reads_locked (book_in b h).contract h.contracts) l b

-- so where b has no test payments, s is b itself
pub record StandsIn (b : List ℕ) (h : Header) (s : List ℕ) : Type 0 where
  pub unread : reads_locked (book_in b h).contract h.contracts ≡ false → s ≡ b

-- what acceptance promises of its records and of those of the book that test payments are settled by, L: both are sound, and every total to
-- divide by is there
pub record Promise (B L : Book) : Type 0 where
  pub sound : Sound B
  pub locked : Sound L
  -- what a constraint divides by is not 0
  pub divisor : (j : ℕ) → j < B.header.constraints → 0 < over_regions B.entry (B.constraint j)
  -- nor are the totals of a region that a contract benefits, in the book that settles it
  pub funded : (k : ℕ) → k < B.header.contracts → (g : ℕ) → g < 5 → (factor_of (B.contract k).factors g ≡ 0 → ⊥) → Funded (entries_by B L (B.contract k) g)

-- and of the bytes of both
pub record AcceptedBook (b l : List ℕ) : Type 0 where
  pub long : length b ≡ whole_length (header_of b)
  pub locked : length (locked_for b l) ≡ whole_length (header_of (locked_for b l))
  pub promise : Promise (book_of b) (book_of (locked_for b l))
