-- What the checks that have passed leave for those that follow.
use Rattle.std.specs.Prelude.{ℕ, ◌≤◌, ◌<◌, ◌≡◌, List, length}
use Rattle.sections.specs.Inner.Order.{Rises, PairsRise}
use Rattle.sections.specs.Inner.Walk.{Names}
use Rattle.rules.specs.Inner.Facts.{EntryRule, ConstraintRule, UnitRule, EnergyRule, ContractRule}
use Rattle.factors.specs.Naming.{id_of, key_of}
use Rattle.book.specs.declared.header.Header.{Header}
use Rattle.book.specs.Header.{whole_length}
use Rattle.book.specs.Book.{Book}

-- 3: the counts are small
pub record Few (h : Header) : Type 0 where
  pub constraints : h.constraints ≤ 64
  pub units : h.units ≤ 600
  pub energies : h.energies ≤ 1024
  pub contracts : h.contracts ≤ 16

-- 3 and 4: the sections are there
pub record Laid (b : List ℕ) (h : Header) : Type 0 where
  pub few : Few h
  pub long : length b ≡ whole_length h

-- 5: each record keeps its rule
pub record Fields (B : Book) : Type 0 where
  pub entries : (g : ℕ) → g < 5 → EntryRule (B.entry g)
  pub constraints : (j : ℕ) → j < B.header.constraints → ConstraintRule (B.constraint j)
  pub units : (u : ℕ) → u < B.header.units → UnitRule (B.unit u)
  pub energies : (i : ℕ) → i < B.header.energies → EnergyRule (B.energy i)
  pub contracts : (k : ℕ) → k < B.header.contracts → ContractRule (B.contract k)

-- 6: each section rises
pub record Ordered (B : Book) : Type 0 where
  pub constraints : Rises (id_of B.constraint) B.header.constraints
  pub units : PairsRise (key_of B.unit) (λ u. (B.unit u).unit) B.header.units
  pub energies : PairsRise (λ i. (B.energy i).account) (λ i. (B.energy i).region) B.header.energies
  pub contracts : Rises (λ k. (B.contract k).id) B.header.contracts

-- 7: each unit row's constraint is there
pub record Named (B : Book) : Type 0 where
  pub names : Names (key_of B.unit) B.header.units (id_of B.constraint) B.header.constraints
