-- How many lines an account has. Only contracts of inner functions speak of these; the lines are those of the walk (lines/specs/Inner/Walks.antt).
use Rattle.std.specs.Prelude.{ℕ, ◌*◌, ◌≤◌, ◌<◌, ◌≡◌, cond, eqb, length}
use Rattle.sections.specs.Inner.Order.{Rises}
use Rattle.sections.specs.Inner.Walk.{Under, Names}
use Rattle.sections.specs.Total.{total, keyed}
use Rattle.records.specs.declared.rows.Constraint.{Constraint}
use Rattle.records.specs.declared.rows.UnitRow.{UnitRow}
use Rattle.records.specs.declared.rows.Entry.{Entry}
use Rattle.records.specs.declared.rows.Contract.{Contract}
use Rattle.factors.specs.Naming.{id_of, key_of}
use Rattle.factors.specs.Inner.Runs.{Walked}
use Rattle.totals.specs.declared.entries.Totals.{Totals}
use Rattle.locking.specs.declared.Source.{Source}
use Rattle.accounts.specs.Rows.{joined}
use Rattle.accounts.specs.declared.energies.OwnEnergies.{OwnEnergies}
use Rattle.book.specs.Book.{Book}
use Rattle.lines.specs.Lines.{region_lines}
use Rattle.groups.specs.Inner.Each.{each_of}
use Rattle.lines.specs.Inner.Walks.{con_lines_at, contract_lines_at, book_lines}
use Rattle.count.specs.declared.Met.{Met}

-- how many lines unit row u has of constraint r, where it names it and is the account's
unfoldable pub count_in : (ℕ → UnitRow) → ℕ → Constraint → ℕ → ℕ
count_in unit account r u = keyed (key_of unit) r.id (λ v. cond (eqb (unit v).account account) (each_of r) 0) u

-- and of all n constraints, of which it names one
unfoldable pub row_count : (ℕ → Constraint) → ℕ → (ℕ → UnitRow) → ℕ → ℕ → ℕ
row_count con n unit account u = total (λ j. count_in unit account (con j) u) n

-- 1 of a unit row that is the account's
unfoldable pub own_row : (ℕ → UnitRow) → ℕ → ℕ → ℕ
own_row unit account u = cond (eqb (unit u).account account) 1 0

-- the lines of the first m unit rows
pub record UnitsCounted (con : ℕ → Constraint) (n : ℕ) (unit : ℕ → UnitRow) (account m x : ℕ) : Type 0 where
  pub lines : x ≡ total (row_count con n unit account) m
  pub few : x ≤ m * 3

-- no unit row names a constraint of mode 0
abbrev pub BareOf : (ℕ → UnitRow) → ℕ → Constraint → Type 0
BareOf unit m r = r.mode ≡ 0 → (u : ℕ) → u < m → key_of unit u ≡ r.id → ⊥

-- what counting rests on
pub record Countable (con : ℕ → Constraint) (n : ℕ) (unit : ℕ → UnitRow) (m : ℕ) : Type 0 where
  pub few : n ≤ 64
  pub walked : Walked unit m
  pub rise : Rises (id_of con) n
  pub names : Names (key_of unit) m (id_of con) n
  pub bare : (j : ℕ) → j < n → BareOf unit m (con j)

-- the lines of the first u unit rows are met, and no id before the cursor is as large as a later row's key
pub record MetAt (con : ℕ → Constraint) (n : ℕ) (unit : ℕ → UnitRow) (m account u : ℕ) (x : Met) : Type 0 where
  pub high : x.cursor ≤ n
  pub under : (v : ℕ) → u ≤ v → v < m → Under (id_of con) x.cursor (key_of unit v)
  pub counted : UnitsCounted con n unit account u x.lines

-- the lines of the first n constraints, whatever the energies
pub record ConstraintsCounted (con : ℕ → Constraint) (n : ℕ) (unit : ℕ → UnitRow) (m account x : ℕ) : Type 0 where
  pub lines : (entry : ℕ → Entry) (own : Totals) → x ≡ length (joined (con_lines_at entry con unit m account own) n)
  pub few : x ≤ 1992

pub record ContractCounted (k : Contract) (x : ℕ) : Type 0 where
  pub lines : (entry own : ℕ → Entry) → x ≡ length (joined (region_lines entry own k) 5)
  pub few : x ≤ 10

pub record ContractsCounted (contract : ℕ → Contract) (n x : ℕ) : Type 0 where
  pub lines : (entry own : Source → ℕ → Entry) → x ≡ length (joined (contract_lines_at entry own contract) n)
  pub few : x ≤ n * 10

-- all lines of an account, whatever book settles the test payments
pub record BookCounted (B : Book) (account x : ℕ) : Type 0 where
  pub lines : (L : Book) (own : OwnEnergies) → x ≡ length (book_lines B L account own)
  pub few : x ≤ 200_000
