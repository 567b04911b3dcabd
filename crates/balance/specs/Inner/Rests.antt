-- What the balance of a pool rests on, of a book that the checks have accepted. Only contracts of inner functions speak of these.
use Rattle.std.specs.Prelude.{ℕ, ◌≤◌, ◌<◌, ◌≡◌, length}
use Rattle.records.specs.declared.rows.Constraint.{Constraint}
use Rattle.book.specs.declared.header.Header.{Header}
use Rattle.book.specs.Header.{units_from, energies_from}
use Rattle.joint.specs.declared.NamingRows.{NamingRows}
use Rattle.book.specs.Book.{Book}
use Rattle.balance.specs.Balance.{accounts_of}

-- r is one of the book's constraints
pub record OfConstraint (B : Book) (r : Constraint) : Type 0 where
  pub place : ℕ
  pub within : place < B.header.constraints
  pub same : r ≡ B.constraint place

-- count is the number of its accounts, with those of the book that test payments are settled by
pub record Counted (B L : Book) (count : ℕ) : Type 0 where
  pub all : count ≡ length (accounts_of B L)
  pub few : count ≤ 3248

-- where the rows that name the accounts of a book with this header stand
pub record NamesOf (h : Header) (p : NamingRows) : Type 0 where
  pub energies : p.energies ≡ energies_from h
  pub n : p.n ≡ h.energies
  pub units : p.units ≡ units_from h
  pub m : p.m ≡ h.units
