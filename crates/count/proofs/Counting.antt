-- Lines counted without being made: a unit row's, a run's, a constraint's, a contract's, and all. Assumes nothing.
use Prim.Native.Nat.{ℕ, ◌+◌, ◌*◌, ◌≤◌, ◌<◌}
use mathlib.Core.Path.{◌≡◌, refl, sym, ap, ap₂, ◌∙◌}
use mathlib.Core.Bool.{Bool, true, false, cond}
use mathlib.Core.List.{[]}
use mathlib.Core.Logic.{⊎_elim}
use borrow.Author.Tests.{eq-eqb, ne_eqb, eqb-true, eqb-false, leb-true}
use lib.Dec.{eqb, leb}
use mir.Val.{bool_byte}
use lib.ListN.{length, length-append}
use native.Mathlib.Omega.{arith}
use native.Mathlib.Nat.{eq-or-lt_of_le}
use Rattle.sections.specs.Search.{all}
use Rattle.sections.specs.Total.{total, keyed}
use Rattle.sections.specs.Inner.Tests.{AnswersAs}
use Rattle.sections.specs.Inner.Walk.{Under, Sought}
use Rattle.sections.proofs.Cases.{is_zero, cond_same}
use Rattle.sections.proofs.Walk.{under_later}
use Rattle.sections.proofs.Total.{total_none, total_more, total_bound, total_zero, total_same, total_plus, total_swap, total_only, keyed_hit, keyed_miss}
use Rattle.sections.proofs.Search.{lt_or_ge, all_each}
use Rattle.rules.specs.Rules.{factor_of}
use Rattle.records.specs.declared.rows.Constraint.{Constraint}
use Rattle.records.specs.declared.rows.UnitRow.{UnitRow}
use Rattle.records.specs.declared.rows.Contract.{Contract}
use Rattle.factors.specs.Naming.{id_of, key_of}
use Rattle.locking.specs.Locking.{settled_by}
use Rattle.locking.specs.declared.Source.{Source}
use Rattle.records.specs.declared.rows.Entry.{Entry}
use Rattle.amounts.specs.Pools.{pools_of, residual_pools}
use Rattle.accounts.specs.Rows.{joined}
use Rattle.accounts.proofs.Joined.{joined_length}
use Rattle.book.specs.Book.{Book}
use Rattle.lines.specs.Lines.{region_lines}
use Rattle.groups.specs.Inner.Each.{each_of, region_each}
use Rattle.lines.specs.Inner.Walks.{own_lines, unit_lines_at, con_lines, con_lines_at, contract_lines_at, totals_from, own_from, book_lines}
use Rattle.groups.proofs.Numbering.{choice_length, unit_length, rest_length, region_length, single}
use Rattle.walk.proofs.Order.{rises_once}
use Rattle.count.specs.Inner.Counts.{count_in, row_count, own_row, UnitsCounted, BareOf, Countable, MetAt, ConstraintsCounted, ContractCounted, ContractsCounted, BookCounted}
use Rattle.count.specs.declared.Met.{Met}

-- ---- a unit row

module _ (unit : ℕ → UnitRow) (account : ℕ) (r : Constraint) (u : ℕ) where
  miss : (key_of unit u ≡ r.id → ⊥) → count_in unit account r u ≡ 0
  unfolding count_in
  miss d = keyed_miss (key_of unit) r.id _ u d

  hit : key_of unit u ≡ r.id → (unit u).account ≡ account → count_in unit account r u ≡ each_of r
  unfolding count_in
  hit e a = sym (keyed_hit (key_of unit) r.id _ u e) ∙ rw (eq-eqb _ _ a)

  other : ((unit u).account ≡ account → ⊥) → count_in unit account r u ≡ 0
  unfolding count_in keyed
  other d = rw (ne_eqb _ _ d) (cond_same (eqb (key_of unit u) r.id) 0)

  row_length : length (unit_lines_at unit account r (pools_of r) u) ≡ count_in unit account r u
  unfolding unit_lines_at own_lines count_in keyed
  row_length =
      choice_length (eqb (key_of unit u) r.id) _ []
      ∙ ap (λ (x : ℕ). cond (eqb (key_of unit u) r.id) x 0)
      (choice_length (eqb (unit u).account account) _ [] ∙ ap (λ (x : ℕ). cond (eqb (unit u).account account) x 0) (unit_length r (pools_of r) (unit u)))

-- a test as a number
byte_is : (t : Bool) → bool_byte t ≡ cond t 1 0
byte_is true = refl
byte_is false = refl

byte_one : (t : Bool) → bool_byte t ≤ 1
byte_one true = omega arith
byte_one false = omega arith

pub own_told : (unit : ℕ → UnitRow) (account u : ℕ) {q : UnitRow} {x : ℕ} → q ≡ unit u → x ≡ bool_byte (eqb q.account account) → (x ≡ own_row unit account u) × (x ≤ 1)
unfolding own_row
own_told unit account u {q} e f = (rw e at (f ∙ byte_is (eqb q.account account)), rw f (byte_one (eqb q.account account)))

-- no more rows are the account's than there are
own_few : (unit : ℕ → UnitRow) (account m : ℕ) → total (own_row unit account) m ≤ m
unfolding own_row
own_few unit account m = omega (arith, total_bound (own_row unit account) 1 m (λ u l. rw (← byte_is (eqb (unit u).account account)) (byte_one (eqb (unit u).account account))))

-- ---- a constraint

module _ (unit : ℕ → UnitRow) (m account : ℕ) (r : Constraint) where
  rows_length : length (joined (unit_lines_at unit account r (pools_of r)) m) ≡ total (count_in unit account r) m
  rows_length = joined_length (unit_lines_at unit account r (pools_of r)) m ∙ total_same _ _ m (λ u l. row_length unit account r u)

  con_length : BareOf unit m r → (o t : ℕ) → length (con_lines unit m account r o t) ≡ total (count_in unit account r) m + each_of r
  unfolding con_lines
  con_length bare o t =
      ⊎_elim
      (λ (z : r.mode ≡ 0). rw (eq-eqb _ _ z) (ap₂ ◌+◌ (total_zero (count_in unit account r) m (λ u l. miss unit account r u (bare z u l))) (single r z)))
      (λ (d : r.mode ≡ 0 → ⊥). rw (ne_eqb _ _ d, length-append) (ap₂ ◌+◌ rows_length (rest_length r (residual_pools r (pools_of r)) o t)))
      (is_zero r.mode)

-- ---- all constraints

module _ (con : ℕ → Constraint) (n : ℕ) (unit : ℕ → UnitRow) (m account : ℕ) where
  units_none : UnitsCounted con n unit account 0 0
  units_none = record { lines = total_none _; few = omega arith }

  pub met_start : MetAt con n unit m account 0 (record { cursor = 0; lines = 0 })
  met_start = record { high = omega arith; under = λ v a b j l. omega arith; counted = units_none }

  units_skip : (u : ℕ) {x : ℕ} {q : UnitRow} → UnitsCounted con n unit account u x → q ≡ unit u → (q.account ≡ account → ⊥) → UnitsCounted con n unit account (u + 1) x
  unfolding row_count
  units_skip u {x} h e d =
      let row = total_zero (λ j. count_in unit account (con j) u) n (λ j l. other unit account (con j) u (rw e at d)) in
      let more = total_more (row_count con n unit account) u h.lines row in
      record { lines = omega (arith, more); few = omega (arith, h.few) }

  module _ (h : Countable con n unit m) where
    -- a key's place among the ids is that of the constraint that it names
    pub named_at : (u c : ℕ) → u < m → Sought (id_of con) n (key_of unit u) c → (c < n) × ((con c).id ≡ key_of unit u)
    named_at u c l s =
        let p = h.names.place u l in
        let w = h.names.within u l in
        let e = h.names.same u l in
        let a : c ≤ p = ⊎_elim (λ (b : p < c). omega (arith, s.under p b, e)) (λ (b : c ≤ p). b) (lt_or_ge p c) in
        let b : c < n = omega arith in
        (b, ⊎_elim (λ (q : c ≡ p). rw q e) (λ (q : c < p). omega (arith, h.rise.rise c p q w, s.over b, e)) (eq-or-lt_of_le a))

    -- a row of the account's has the lines of the constraint that it names
    row_counted : (u c : ℕ) → c < n → (con c).id ≡ key_of unit u → (unit u).account ≡ account → row_count con n unit account u ≡ each_of (con c)
    unfolding row_count
    row_counted u c l e a =
        let apart : (j : ℕ) → j < n → (j ≡ c → ⊥) → count_in unit account (con j) u ≡ 0 = λ j b d. miss unit account (con j) u (λ (q : key_of unit u ≡ (con j).id). d (rises_once (id_of con) n h.rise j c b l (sym q ∙ sym e))) in
        total_only (λ j. count_in unit account (con j) u) c n l apart ∙ hit unit account (con c) u (sym e) a

    units_own : (u c : ℕ) {x y : ℕ} {q : UnitRow} {r : Constraint} → u < m → UnitsCounted con n unit account u x → q ≡ unit u → q.account ≡ account → Sought (id_of con) n (key_of unit u) c → r ≡ con c → y ≡ each_of r → y ≤ 3 → UnitsCounted con n unit account (u + 1) (x + y)
    units_own u c {x} {y} l k e a s f g z =
        let at_c = named_at u c l s in
        let row : y ≡ row_count con n unit account u = g ∙ ap each_of f ∙ sym (row_counted u c at_c.0 at_c.1 (rw e at a)) in
        record { lines = total_more (row_count con n unit account) u k.lines row; few = omega (arith, k.few) }

    -- where no constraint is of mode 2, each of them has three
    module _ (none : all (λ j. leb (con j).mode 1) n ≡ true) where
      factored : (j : ℕ) → j < n → ((con j).mode ≡ 0 → ⊥) → each_of (con j) ≡ 3
      unfolding each_of
      factored j l d =
          let low = leb-true (con j).mode 1 (all_each (λ j. leb (con j).mode 1) n none j l) in
          ⊎_elim
          (λ (e : (con j).mode ≡ 1). rw (eq-eqb _ _ e))
          (λ (b : (con j).mode < 1). absurd (d (omega arith)))
          (eq-or-lt_of_le low)

      three_each : (u : ℕ) → u < m → row_count con n unit account u ≡ own_row unit account u + own_row unit account u + own_row unit account u
      unfolding row_count own_row
      three_each u l = by (eqb (unit u).account account) refl
        where
          by : (t : Bool) → eqb (unit u).account account ≡ t → row_count con n unit account u ≡ cond t 1 0 + cond t 1 0 + cond t 1 0
          by true t =
              let p = h.names.place u l in
              let w = h.names.within u l in
              let e = h.names.same u l in
              row_counted u p w e (eqb-true _ _ t) ∙ factored p w (λ z. h.bare p w z u l (sym e))
          by false t = sym (total_zero (λ j. count_in unit account (con j) u) n (λ j b. other unit account (con j) u (eqb-false _ _ t)))

      pub threes_counted : {x : ℕ} → x ≡ total (own_row unit account) m → UnitsCounted con n unit account m (x * 3)
      threes_counted {x} e =
          let f = own_row unit account in
          let sum = total_same (row_count con n unit account) (λ u. f u + f u + f u) m three_each ∙ total_plus (λ u. f u + f u) f m ∙ ap (λ (s : ℕ). s + total f m) (total_plus f f m) in
          record { lines = omega (arith, sum, e); few = omega (arith, e, own_few unit account m) }

    pub met_skip : (u : ℕ) {x : Met} {q : UnitRow} → MetAt con n unit m account u x → q ≡ unit u → (q.account ≡ account → ⊥) → MetAt con n unit m account (u + 1) x
    met_skip u k e d = record { high = k.high; under = λ v a b. k.under v (omega arith) b; counted = units_skip u k.counted e d }

    pub met_under : (u : ℕ) {x : Met} {q : UnitRow} → u < m → MetAt con n unit m account u x → q ≡ unit u → Under (id_of con) x.cursor q.constraint
    met_under u l k e = rw e (k.under u (omega arith) l)

    pub met_own : (u c : ℕ) {x : Met} {y : ℕ} {q : UnitRow} {r : Constraint} → u < m → MetAt con n unit m account u x → q ≡ unit u → q.account ≡ account → Sought (id_of con) n q.constraint c → r ≡ con c → y ≡ each_of r → y ≤ 3 → MetAt con n unit m account (u + 1) (record { cursor = c; lines = x.lines + y })
    met_own u c l k e a s f g z =
        let t : Sought (id_of con) n (key_of unit u) c = rw e at s in
        record {
          high = t.high;
          under = λ v b d. under_later (id_of con) c (key_of unit u) (key_of unit v) t.under (h.walked.keep.keep u v (omega arith) d);
          counted = units_own u c l k.counted e a t f g z;
        }

    pub constraints_counted : {x y : ℕ} → UnitsCounted con n unit account m x → y ≡ total (λ j. each_of (con j)) n → y ≤ 192 → ConstraintsCounted con n unit m account (x + y)
    unfolding row_count con_lines_at
    constraints_counted {x} {y} k e l =
        record {
          lines = λ entry own. sym (joined_length (con_lines_at entry con unit m account own) n
              ∙ total_same _ (λ j. total (count_in unit account (con j)) m + each_of (con j)) n (λ j b. con_length unit m account (con j) (h.bare j b) _ _)
              ∙ total_plus (λ j. total (count_in unit account (con j)) m) (λ j. each_of (con j)) n
              ∙ ap₂ ◌+◌ (total_swap (λ j u. count_in unit account (con j) u) m n ∙ sym k.lines) (sym e));
          few = omega (arith, k.few, h.walked.few);
        }

-- ---- a contract, and all

pub contract_counted : (k : Contract) {x : ℕ} → x ≡ total (λ g. region_each (factor_of k.factors g)) 5 → x ≤ 10 → ContractCounted k x
contract_counted k e l =
    record {
      lines = λ entry own. e ∙ sym (joined_length (region_lines entry own k) 5 ∙ total_same _ _ 5 (λ g j. region_length entry own k g));
      few = l;
    }

module _ (contract : ℕ → Contract) where
  contract_told : (i : ℕ) {x : ℕ} → ContractCounted (contract i) x → (entry own : Source → ℕ → Entry) → x ≡ length (contract_lines_at entry own contract i)
  unfolding contract_lines_at
  contract_told i c entry own = c.lines (entry (settled_by (contract i))) (own (settled_by (contract i)))

  -- a number for each, of which x is the sum
  pub contracts_counted : (n : ℕ) {x : ℕ} (one : ℕ → ℕ → Type 0) → ((i y : ℕ) → i < n → one i y → ContractCounted (contract i) y) → ((f : ℕ → ℕ) → AnswersAs one n f → x ≡ total f n) → ((b : ℕ) → ((i y : ℕ) → i < n → one i y → y ≤ b) → x ≤ n * b) → ContractsCounted contract n x
  contracts_counted n one h sum bound =
      record {
        lines = λ entry own. sum (λ i. length (contract_lines_at entry own contract i)) (λ i y l e. contract_told i (h i y l e) entry own) ∙ sym (joined_length (contract_lines_at entry own contract) n);
        few = bound 10 (λ i y l e. (h i y l e).few);
      }

-- ---- a book: its constraints' lines and then its contracts'

pub book_counted : (B : Book) (account : ℕ) {x y : ℕ} → B.header.contracts ≤ 16 → ConstraintsCounted B.constraint B.header.constraints B.unit B.header.units account x → ContractsCounted B.contract B.header.contracts y → BookCounted B account (x + y)
unfolding book_lines
book_counted B account n c d =
    record {
      lines = λ L own. rw length-append (ap₂ ◌+◌ (c.lines B.entry own.current) (d.lines (totals_from B.entry L.entry) (own_from own)));
      few = omega (arith, n, c.few, d.few);
    }
