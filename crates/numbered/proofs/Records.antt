-- A search among the lines of all constraints and of all contracts, record by record; and the line that it finds among all. Assumes nothing.
use Prim.Native.Nat.{ℕ, ◌+◌, ◌<◌}
use mathlib.Core.Path.{◌≡◌, sym, ap, ◌∙◌}
use mathlib.Core.List.{List}
use Rattle.std.specs.Prelude.{Result, Ok, Err}
use Rattle.ground.specs.Nth.{past, nth}
use Rattle.ground.proofs.Nth.{nth_front, nth_behind}
use Rattle.sections.specs.Inner.Order.{Rises}
use Rattle.sections.specs.Inner.Walk.{Stands, Names}
use Rattle.sections.proofs.Walk.{stands_next}
use Rattle.ground.specs.Bytes.{part_from}
use Rattle.records.specs.Rows.{entry_row}
use Rattle.records.specs.declared.rows.Entry.{Entry}
use Rattle.records.specs.declared.rows.Constraint.{Constraint}
use Rattle.records.specs.declared.rows.UnitRow.{UnitRow}
use Rattle.records.specs.declared.rows.Contract.{Contract}
use Rattle.factors.specs.Naming.{id_of, key_of}
use Rattle.totals.specs.Divisors.{over_regions}
use Rattle.totals.specs.Inner.Totals.{entry_of}
use Rattle.totals.specs.declared.entries.Totals.{Totals}
use Rattle.book.specs.Book.{Book}
use Rattle.locking.specs.Locking.{source_of, pick}
use Rattle.locking.specs.Inner.Handed.{Handed}
use Rattle.locking.specs.declared.Source.{Source}
use Rattle.accounts.specs.Rows.{joined}
use Rattle.accounts.specs.declared.energies.OwnEnergies.{OwnEnergies}
use Rattle.statement.specs.declared.Line.{Line}
use Rattle.lines.specs.Lines.{region_lines}
use Rattle.lines.specs.Inner.Walks.{con_lines, con_lines_at, contract_lines_at, settled_lines, totals_from, own_from, book_lines, Ready}
use Rattle.lines.proofs.Parts.{con_part, paid_part, both_parts}
use Rattle.lines.proofs.Picked.{lines_in_lem}
use Rattle.lookup.specs.ByNumber.{answer_of, numbered_in}
use Rattle.lookup.specs.Inner.Sought.{Rests, Bare, SoughtIn}
use Rattle.lookup.specs.declared.constraint.Passed.{Passed}
use Rattle.lookup.proofs.Answered.{line_told, line_there, past_there}
use Rattle.lookup.proofs.Joined.{pass_more, found_in}

-- ---- what constraint j rests on

module _ (entry : ℕ → Entry) (con : ℕ → Constraint) (n : ℕ) (unit : ℕ → UnitRow) (m : ℕ) (own : Totals) (h : Ready entry con n unit m own) (j : ℕ) (l : j < n) {r : Constraint} (e : r ≡ con j) where
  pub rests_at : Rests entry r own
  rests_at = record { rule = rw e (h.rules j l); entries = h.entries; energy = h.energy; shared = rw e (h.shared j l) }

  pub bare_at : Bare unit m r
  bare_at = record { none = rw e (h.bare j l) }

-- ---- constraints; the first j are passed, r is constraint j, and x is what was found in it

module _ (entry : ℕ → Entry) (con : ℕ → Constraint) (unit : ℕ → UnitRow) (m account : ℕ) (own : Totals) (number j : ℕ) {left : ℕ} (h : nth (joined (con_lines_at entry con unit m account own) j) number ≡ past left) {r : Constraint} (e : r ≡ con j) {x : Result Line Passed} (g : SoughtIn unit m r (con_lines unit m account r (over_regions (entry_of own) r) (over_regions entry r)) left x) where
  pub con_found : (n : ℕ) {l : Line} → j < n → x ≡ Ok l → Ok l ≡ numbered_in (joined (con_lines_at entry con unit m account own) n) number
  unfolding SoughtIn con_lines_at
  con_found n b f = line_told _ number (found_in (con_lines_at entry con unit m account own) number j h n b (rw e at (rw f at g)))

  pub con_passed : {p : Passed} → x ≡ Err p → nth (joined (con_lines_at entry con unit m account own) (j + 1)) number ≡ past p.left
  unfolding SoughtIn con_lines_at
  con_passed f = pass_more (con_lines_at entry con unit m account own) number j h (rw e at (rw f at g).1)

  pub con_next : {n : ℕ} {p : Passed} → Rises (id_of con) n → Names (key_of unit) m (id_of con) n → x ≡ Err p → j + 1 < n → Stands (key_of unit) m (id_of con (j + 1)) p.row
  unfolding SoughtIn
  con_next {n} {p} rise names f l = stands_next (key_of unit) m (id_of con) n rise names j p.row (rw e at (rw f at g).0) l

-- ---- one contract; r is the energy section that was handed back, and t the account's energies in the same book

module _ {b l r : List ℕ} {s : Source} (h : Handed s b l r) (own : OwnEnergies) (k : Contract) {t : Totals} (e : s ≡ source_of k.kind) (f : t ≡ pick s own.current own.locked) where
  pub line_in : (number : ℕ) {x : Result Line ℕ} → x ≡ numbered_in (joined (region_lines (entry_row r) (entry_of t) k) 5) number → x ≡ numbered_in (settled_lines (entry_row (part_from 24 b)) (entry_row (part_from 24 l)) own k) number
  line_in number g = g ∙ ap (λ (ls : List Line). numbered_in ls number) (lines_in_lem h own k e f)

-- ---- contracts, likewise

module _ (current locked : ℕ → Entry) (own : OwnEnergies) (contract : ℕ → Contract) (number i : ℕ) {left : ℕ} (h : nth (joined (contract_lines_at (totals_from current locked) (own_from own) contract) i) number ≡ past left) {k : Contract} (e : k ≡ contract i) {x : Result Line ℕ} (g : x ≡ numbered_in (settled_lines current locked own k) left) where
  pub paid_found : (n : ℕ) {l : Line} → i < n → x ≡ Ok l → Ok l ≡ numbered_in (joined (contract_lines_at (totals_from current locked) (own_from own) contract) n) number
  unfolding contract_lines_at
  paid_found n b f = line_told _ number (found_in (contract_lines_at (totals_from current locked) (own_from own) contract) number i h n b (rw e at (line_there _ left g f)))

  pub paid_passed : {rest : ℕ} → x ≡ Err rest → nth (joined (contract_lines_at (totals_from current locked) (own_from own) contract) (i + 1)) number ≡ past rest
  unfolding contract_lines_at
  paid_passed f = pass_more (contract_lines_at (totals_from current locked) (own_from own) contract) number i h (rw e at (past_there _ left g f))

-- ---- all lines

module _ (B L : Book) (account : ℕ) (own : OwnEnergies) (number : ℕ) {x : Result Line ℕ} (g : x ≡ numbered_in (con_part B L account own) number) where
  pub line_first : {l : Line} → x ≡ Ok l → Ok l ≡ numbered_in (book_lines B L account own) number
  line_first q = line_told _ number (rw (both_parts B L account own) (nth_front (con_part B L account own) (paid_part B L account own) number (line_there _ number g q)))

  module _ {left : ℕ} (q : x ≡ Err left) where
    behind : nth (book_lines B L account own) number ≡ nth (paid_part B L account own) left
    behind = rw (both_parts B L account own) (nth_behind (con_part B L account own) (paid_part B L account own) number (past_there _ number g q))

    pub line_behind : (y : Result Line ℕ) → y ≡ numbered_in (paid_part B L account own) left → y ≡ numbered_in (book_lines B L account own) number
    unfolding numbered_in
    line_behind y r = r ∙ ap answer_of (sym behind)
