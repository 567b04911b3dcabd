-- What a statement may depend on: the public part of a book, and an account's own rows.
use Rattle.std.specs.Prelude.{ℕ, ◌&&◌, Bool, cond, List, eqb}
use Rattle.market.specs.declared.Basis.{Basis}
use Rattle.records.specs.declared.rows.Entry.{Entry}
use Rattle.records.specs.declared.rows.Constraint.{Constraint}
use Rattle.records.specs.declared.rows.UnitRow.{UnitRow}
use Rattle.records.specs.declared.rows.EnergyRow.{EnergyRow}
use Rattle.records.specs.declared.rows.Contract.{Contract}
use Rattle.totals.specs.Sums.{row_by, entry_with}
use Rattle.book.specs.Book.{Book}
use Rattle.accounts.specs.Rows.{rows_of, keep, sum_of, none}

-- "date, interval, run, region totals, constraints, contracts"
pub record Public : Type 0 where
  pub date : ℕ
  pub interval : ℕ
  pub run : ℕ
  pub entries : List Entry
  pub constraints : List Constraint
  pub contracts : List Contract

-- "one account's own energy and unit rows"
pub record Rows : Type 0 where
  pub energies : List EnergyRow
  pub units : List UnitRow

unfoldable pub public_of : Book → Public
public_of B =
    record {
      date = B.header.date;
      interval = B.header.interval;
      run = B.header.run;
      entries = rows_of B.entry 5;
      constraints = rows_of B.constraint B.header.constraints;
      contracts = rows_of B.contract B.header.contracts;
    }

unfoldable pub rows_of_account : Book → ℕ → Rows
rows_of_account B account =
    record {
      energies = keep (λ r. eqb r.account account) (rows_of B.energy B.header.energies);
      units = keep (λ r. eqb r.account account) (rows_of B.unit B.header.units);
    }

-- 02, Req 04: "the locked region totals and the account's energy rows and unit rows in the locked book"
pub record LockedPart : Type 0 where
  pub entries : List Entry
  pub rows : Rows

unfoldable pub locked_of : Book → ℕ → LockedPart
locked_of L account = record { entries = rows_of L.entry 5; rows = rows_of_account L account }

-- an account's own energy of one kind in region g. "Missing energy rows count as 0."
abbrev pub own_by : List EnergyRow → ℕ → Basis → ℕ
own_by rows g b = sum_of (λ r. cond (eqb r.region g) (row_by b r) 0) rows

-- of each kind, put as a region's entry is
unfoldable pub own_energy : List EnergyRow → ℕ → Entry
own_energy rows g = entry_with (own_by rows g)

-- 11: "no unit row and no energy row names the account"
abbrev pub unknown : Rows → Bool
unknown rows = none rows.units && none rows.energies

-- 02, Req 04: "11 when no book read names the account"
abbrev pub unnamed : Rows → LockedPart → Bool
unnamed rows locked = unknown rows && unknown locked.rows
