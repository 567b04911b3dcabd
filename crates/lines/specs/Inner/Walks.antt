-- The lines of a statement as a walk over the book's rows meets them. Only contracts of inner functions speak of these; settlement/proofs/Link
-- ties them to the statement's own definition.
use Rattle.std.specs.Prelude.{ℕ, ◌<◌, ◌≡◌, cond, List, [], ◌∷◌, ◌++◌, eqb}
use Rattle.sections.specs.Inner.Order.{Rises}
use Rattle.sections.specs.Inner.Walk.{Names}
use Rattle.records.specs.declared.rows.Constraint.{Constraint}
use Rattle.records.specs.declared.rows.UnitRow.{UnitRow}
use Rattle.rules.specs.Inner.Facts.{EntryRule, ConstraintRule, ContractRule}
use Rattle.rules.specs.Rules.{factor_of}
use Rattle.records.specs.declared.rows.Entry.{Entry}
use Rattle.records.specs.declared.rows.Contract.{Contract}
use Rattle.factors.specs.Naming.{id_of, key_of}
use Rattle.factors.specs.Inner.Runs.{Walked}
use Rattle.totals.specs.Divisors.{over_regions}
use Rattle.totals.specs.Inner.Totals.{entry_of}
use Rattle.totals.specs.declared.entries.Totals.{Totals}
use Rattle.amounts.specs.Pools.{pools_of, residual_pools}
use Rattle.amounts.specs.declared.pools.Pools.{Pools}
use Rattle.accounts.specs.Rows.{joined}
use Rattle.accounts.specs.declared.energies.OwnEnergies.{OwnEnergies}
use Rattle.locking.specs.Locking.{settled_by, pick}
use Rattle.locking.specs.declared.Source.{Source}
use Rattle.book.specs.Book.{Book}
use Rattle.statement.specs.declared.Line.{Line}
use Rattle.lines.specs.Lines.{contingency_line, unit_lines, rest_lines, region_lines}
use Rattle.lines.specs.Inner.Shared.{Shared}

-- a unit row's lines, where the account owns it
unfoldable pub own_lines : ℕ → Constraint → Pools → UnitRow → List Line
own_lines account r p q = cond (eqb q.account account) (unit_lines r p q) []

-- and where it names the constraint
unfoldable pub unit_lines_at : (ℕ → UnitRow) → ℕ → Constraint → Pools → ℕ → List Line
unit_lines_at unit account r p u = cond (eqb (key_of unit u) r.id) (own_lines account r p (unit u)) []

-- the lines of one constraint; o and t are the account's energy and the total over its regions
unfoldable pub con_lines : (ℕ → UnitRow) → ℕ → ℕ → Constraint → ℕ → ℕ → List Line
con_lines unit m account r o t =
    cond (eqb r.mode 0) (contingency_line r o t ∷ [])
    (joined (unit_lines_at unit account r (pools_of r)) m ++ rest_lines r (residual_pools r (pools_of r)) o t)

-- what settling a constraint rests on
pub record Settles (unit : ℕ → UnitRow) (m : ℕ) (r : Constraint) (o t : ℕ) : Type 0 where
  pub rule : ConstraintRule r
  -- no unit row names a constraint of mode 0
  pub bare : r.mode ≡ 0 → (u : ℕ) → u < m → key_of unit u ≡ r.id → ⊥
  pub shared : Shared o t

-- constraint j's lines
unfoldable pub con_lines_at : (ℕ → Entry) → (ℕ → Constraint) → (ℕ → UnitRow) → ℕ → ℕ → Totals → ℕ → List Line
con_lines_at entry con unit m account own j = con_lines unit m account (con j) (over_regions (entry_of own) (con j)) (over_regions entry (con j))

-- what settling n constraints rests on
pub record Ready (entry : ℕ → Entry) (con : ℕ → Constraint) (n : ℕ) (unit : ℕ → UnitRow) (m : ℕ) (own : Totals) : Type 0 where
  pub rules : (j : ℕ) → j < n → ConstraintRule (con j)
  pub walked : Walked unit m
  pub rise : Rises (id_of con) n
  pub names : Names (key_of unit) m (id_of con) n
  pub bare : (j : ℕ) → j < n → (con j).mode ≡ 0 → (u : ℕ) → u < m → key_of unit u ≡ (con j).id → ⊥
  pub entries : (g : ℕ) → g < 5 → EntryRule (entry g)
  pub energy : (g : ℕ) → g < 5 → EntryRule (entry_of own g)
  pub shared : (j : ℕ) → j < n → Shared (over_regions (entry_of own) (con j)) (over_regions entry (con j))

-- contract i's lines, its regions rising; entry s and own s are the totals and the account's energies in the current and in the locked book
unfoldable pub contract_lines_at : (Source → ℕ → Entry) → (Source → ℕ → Entry) → (ℕ → Contract) → ℕ → List Line
contract_lines_at entry own contract i = joined (region_lines (entry (settled_by (contract i))) (own (settled_by (contract i))) (contract i)) 5

-- what settling a contract rests on
pub record ContractSettles (entry : ℕ → Entry) (k : Contract) (own : Totals) : Type 0 where
  pub rule : ContractRule k
  pub ace : (g : ℕ) → g < 5 → (factor_of k.factors g ≡ 0 → ⊥) → Shared (entry_of own g).ace (entry g).ace
  pub asoe : (g : ℕ) → g < 5 → (factor_of k.factors g ≡ 0 → ⊥) → Shared (entry_of own g).asoe (entry g).asoe

-- the totals and an account's own energies by which a contract is settled
abbrev pub totals_from : (ℕ → Entry) → (ℕ → Entry) → Source → ℕ → Entry
totals_from current locked s = pick s current locked

abbrev pub own_from : OwnEnergies → Source → ℕ → Entry
own_from own s = entry_of (pick s own.current own.locked)

-- all lines of an account as the walk meets them; L is the book that test payments are settled by
unfoldable pub book_lines : Book → Book → ℕ → OwnEnergies → List Line
book_lines B L account own =
    joined (con_lines_at B.entry B.constraint B.unit B.header.units account own.current) B.header.constraints
    ++ joined (contract_lines_at (totals_from B.entry L.entry) (own_from own) B.contract) B.header.contracts

-- those of contract k
abbrev pub settled_lines : (ℕ → Entry) → (ℕ → Entry) → OwnEnergies → Contract → List Line
settled_lines current locked own k = joined (region_lines (totals_from current locked (settled_by k)) (own_from own (settled_by k)) k) 5

-- what it rests on
abbrev pub SettledIn : (ℕ → Entry) → (ℕ → Entry) → OwnEnergies → Contract → Type 0
SettledIn current locked own k =
    ContractSettles (totals_from current locked (settled_by k)) k (pick (settled_by k) own.current own.locked)

-- what the walk over a book rests on
pub record Walkable (B L : Book) (own : OwnEnergies) : Type 0 where
  pub ready : Ready B.entry B.constraint B.header.constraints B.unit B.header.units own.current
  pub payable : (k : ℕ) → k < B.header.contracts → SettledIn B.entry L.entry own (B.contract k)
