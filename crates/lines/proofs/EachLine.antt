-- What holds of each line of a book, from what holds of each kind of line. Assumes nothing.
use Prim.Native.Nat.{ℕ, ◌<◌}
use mathlib.Core.Path.{◌≡◌, refl}
use mathlib.Core.Bool.{Bool, true, false, cond}
use mathlib.Core.List.{List, [], ◌∷◌}
use borrow.Author.Tests.{eqb-false}
use lib.Dec.{eqb}
use Rattle.ground.specs.Inner.Each.{Each}
use Rattle.ground.proofs.Each.{each_append, each_choice}
use Rattle.rules.specs.Rules.{factor_of}
use Rattle.totals.specs.Divisors.{over_regions}
use Rattle.totals.specs.Inner.Totals.{entry_of}
use Rattle.records.specs.declared.rows.Entry.{Entry}
use Rattle.locking.specs.Locking.{settled_by}
use Rattle.accounts.specs.declared.energies.OwnEnergies.{OwnEnergies}
use Rattle.amounts.specs.Pools.{pools_of, residual_pools, halves_of}
use Rattle.accounts.specs.Rows.{joined}
use Rattle.accounts.proofs.Joined.{each_joined}
use Rattle.book.specs.Book.{Book}
use Rattle.statement.specs.declared.Line.{Line}
use Rattle.lines.specs.Lines.{contingency_line, unit_lines, rest_lines, ace_line, asoe_line, region_lines}
use Rattle.lines.specs.Inner.Walks.{own_lines, unit_lines_at, con_lines, con_lines_at, contract_lines_at, totals_from, own_from, book_lines}

each_unless : (P : Line → Type 0) (t : Bool) (ls : List Line) → (t ≡ false → Each P ls) → Each P (cond t [] ls)
each_unless P true ls h = tt
each_unless P false ls h = h refl

module _ (P : Line → Type 0) (B L : Book) (own : OwnEnergies) where
  -- the totals and the account's energies in the book that settles contract k
  abbrev total_by : ℕ → ℕ → Entry
  total_by k = totals_from B.entry L.entry (settled_by (B.contract k))

  abbrev own_by : ℕ → ℕ → Entry
  own_by k = own_from own (settled_by (B.contract k))

  -- of constraint j's lines, and of contract k's in region g
  pub record EachKind : Type 0 where
    pub contingency : (j : ℕ) → j < B.header.constraints → P (contingency_line (B.constraint j) (over_regions (entry_of own.current) (B.constraint j)) (over_regions B.entry (B.constraint j)))
    pub units : (j : ℕ) → j < B.header.constraints → (u : ℕ) → u < B.header.units → Each P (unit_lines (B.constraint j) (pools_of (B.constraint j)) (B.unit u))
    pub rest : (j : ℕ) → j < B.header.constraints → Each P (rest_lines (B.constraint j) (residual_pools (B.constraint j) (pools_of (B.constraint j))) (over_regions (entry_of own.current) (B.constraint j)) (over_regions B.entry (B.constraint j)))
    pub region : (k : ℕ) → k < B.header.contracts → (g : ℕ) → g < 5 → (factor_of (B.contract k).factors g ≡ 0 → ⊥) → Each P (ace_line (B.contract k).id g (halves_of (B.contract k).payment (factor_of (B.contract k).factors g)) (own_by k g).ace (total_by k g).ace ∷ asoe_line (B.contract k).id g (halves_of (B.contract k).payment (factor_of (B.contract k).factors g)) (own_by k g).asoe (total_by k g).asoe ∷ [])

  module _ (h : EachKind) (account : ℕ) where
    constraint_each : (j : ℕ) → j < B.header.constraints → Each P (con_lines_at B.entry B.constraint B.unit B.header.units account own.current j)
    unfolding con_lines_at con_lines unit_lines_at own_lines
    constraint_each j l =
        each_choice P (eqb (B.constraint j).mode 0) _ _ (h.contingency j l, tt)
        (each_append P (joined (unit_lines_at B.unit account (B.constraint j) (pools_of (B.constraint j))) B.header.units) _
        (each_joined P _ B.header.units (λ u m. each_choice P (eqb (B.unit u).constraint (B.constraint j).id) _ [] (each_choice P (eqb (B.unit u).account account) _ [] (h.units j l u m) tt) tt))
        (h.rest j l))

    region_each_lem : (k : ℕ) → k < B.header.contracts → (g : ℕ) → g < 5 → Each P (region_lines (total_by k) (own_by k) (B.contract k) g)
    unfolding region_lines
    region_each_lem k l g m = each_unless P (eqb (factor_of (B.contract k).factors g) 0) _ (λ e. h.region k l g m (eqb-false _ _ e))

    contract_each : (k : ℕ) → k < B.header.contracts → Each P (contract_lines_at (totals_from B.entry L.entry) (own_from own) B.contract k)
    unfolding contract_lines_at
    contract_each k l = each_joined P _ 5 (region_each_lem k l)

    pub each_line : Each P (book_lines B L account own)
    unfolding book_lines
    each_line =
        each_append P (joined (con_lines_at B.entry B.constraint B.unit B.header.units account own.current) B.header.constraints) _
        (each_joined P _ B.header.constraints constraint_each)
        (each_joined P _ B.header.contracts contract_each)
