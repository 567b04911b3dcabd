-- The number of an account's lines is small: at most three for each unit row and each constraint, and ten for each contract. Assumes nothing.
use Prim.Native.Nat.{ℕ, zero, suc, ◌+◌, ◌*◌, ◌≤◌}
use mathlib.Core.Path.{◌≡◌, refl}
use mathlib.Core.Bool.{Bool, true, false, cond}
use mathlib.Core.List.{List, []}
use borrow.Author.Tests.{eqb-true, eqb-false}
use lib.Dec.{eqb}
use lib.ListN.{length, length-append}
use native.Mathlib.Omega.{arith}
use native.Mathlib.Nat.{le_refl}
use Rattle.sections.specs.Inner.Order.{Rises}
use Rattle.sections.specs.Total.{total, keyed, total_of}
use Rattle.sections.proofs.Total.{total_zero, total_under, total_plus, total_swap, total_bound, keyed_miss, keyed_le}
use Rattle.rules.specs.Rules.{factor_of}
use Rattle.records.specs.declared.rows.Entry.{Entry}
use Rattle.records.specs.declared.rows.Constraint.{Constraint}
use Rattle.records.specs.declared.rows.UnitRow.{UnitRow}
use Rattle.records.specs.declared.rows.Contract.{Contract}
use Rattle.factors.specs.Naming.{id_of, key_of}
use Rattle.totals.specs.declared.entries.Totals.{Totals}
use Rattle.amounts.specs.Pools.{pools_of, residual_pools}
use Rattle.amounts.specs.declared.pools.Pools.{Pools}
use Rattle.amounts.specs.declared.pools.Residual.{Residual}
use Rattle.locking.specs.Locking.{settled_by}
use Rattle.locking.specs.declared.Source.{Source}
use Rattle.accounts.specs.Rows.{joined}
use Rattle.accounts.proofs.Joined.{joined_length, joined_bound}
use Rattle.statement.specs.declared.Line.{Line}
use Rattle.lines.specs.Lines.{unit_lines, rest_lines, region_lines}
use Rattle.lines.specs.Inner.Walks.{own_lines, unit_lines_at, con_lines, con_lines_at, contract_lines_at}

-- ---- sums

-- of ids that rise at most one is a given key, so what a record counts for is counted once
pub counted_once : (key id f : ℕ → ℕ) (n : ℕ) → Rises id n → (u : ℕ) → total (λ j. keyed key (id j) f u) n ≤ f u
unfolding total
counted_once key id f zero r u = omega arith
counted_once key id f (suc n) r u =
    by (counted_once key id f n (record { rise = λ i j a b. r.rise i j a (omega arith) }) u) (eqb (key u) (id n)) refl
  where
    by : total (λ j. keyed key (id j) f u) n ≤ f u → (t : Bool) → eqb (key u) (id n) ≡ t → total (λ j. keyed key (id j) f u) n + keyed key (id n) f u ≤ f u
    by ih true e =
        let k = eqb-true (key u) (id n) e in
        rw (← total_zero (λ j. keyed key (id j) f u) n (λ j l. keyed_miss key (id j) f u (λ (q : key u ≡ id j). omega (arith, r.rise j n l (le_refl (suc n))))))
        (omega (arith, keyed_le key (id n) f (f u) u (le_refl (f u))))
    by ih false e = rw (keyed_miss key (id n) f u (eqb-false (key u) (id n) e)) (omega arith)

-- ---- lists

-- whichever of two lists is taken, neither of which is longer than b
pub choice_bound : {A : Type 0} (t : Bool) (x y : List A) (b : ℕ) → length x ≤ b → length y ≤ b → length (cond t x y) ≤ b
choice_bound true x y b h k = h
choice_bound false x y b h k = k

-- ---- a unit row and a constraint

-- a unit row has one line or three
unit_three : (r : Constraint) (p : Pools) (q : UnitRow) → length (unit_lines r p q) ≤ 3
unfolding unit_lines
unit_three r p q = choice_bound (eqb r.mode 1) _ _ 3 (omega arith) (omega arith)

-- and a constraint's residual too
rest_three : (r : Constraint) (x : Residual) (o t : ℕ) → length (rest_lines r x o t) ≤ 3
unfolding rest_lines
rest_three r x o t = choice_bound (eqb r.mode 1) _ _ 3 (omega arith) (omega arith)

module _ (unit : ℕ → UnitRow) (account : ℕ) (r : Constraint) where
  -- a unit row has lines where it names the constraint only
  row_three : (p : Pools) (u : ℕ) → length (unit_lines_at unit account r p u) ≤ keyed (key_of unit) r.id (λ v. 3) u
  unfolding unit_lines_at own_lines keyed
  row_three p u = by (eqb (key_of unit u) r.id) _ (choice_bound (eqb (unit u).account account) _ _ 3 (unit_three r p (unit u)) (omega arith))
    where
      by : (t : Bool) (x : List Line) → length x ≤ 3 → length (cond t x []) ≤ cond t 3 0
      by true x h = h
      by false x h = omega arith

  -- a constraint has three lines at most, and three more for each unit row that names it
  constraint_few : (m o t : ℕ) → length (con_lines unit m account r o t) ≤ total_of (key_of unit) r.id (λ v. 3) m + 3
  unfolding con_lines
  constraint_few m o t =
      choice_bound (eqb r.mode 0) _ _ _ (omega arith)
      (rw (length-append, joined_length (unit_lines_at unit account r (pools_of r)) m)
      (omega (arith, total_under (λ u. length (unit_lines_at unit account r (pools_of r) u)) (keyed (key_of unit) r.id (λ v. 3)) m (λ u l. row_three (pools_of r) u), rest_three r (residual_pools r (pools_of r)) o t)))

-- ---- all constraints

module _ (entry : ℕ → Entry) (con : ℕ → Constraint) (n : ℕ) (unit : ℕ → UnitRow) (m account : ℕ) (own : Totals) where
  -- the same of constraint j
  constraint_at_lem : (j : ℕ) → length (con_lines_at entry con unit m account own j) ≤ total_of (key_of unit) (con j).id (λ v. 3) m + 3
  unfolding con_lines_at
  constraint_at_lem j = constraint_few unit account (con j) m _ _

  -- three lines at most for each unit row and each constraint: ids rise, so a unit row names one constraint at most
  pub few_lines : Rises (id_of con) n → length (joined (con_lines_at entry con unit m account own) n) ≤ 3 * m + 3 * n
  few_lines r =
      let each = total_under (λ j. length (con_lines_at entry con unit m account own j)) (λ j. total_of (key_of unit) (con j).id (λ v. 3) m + 3) n (λ j l. constraint_at_lem j) in
      let parts = total_plus (λ j. total_of (key_of unit) (con j).id (λ v. 3) m) (λ j. 3) n in
      let rest = total_bound (λ j. 3) 3 n (λ k l. le_refl 3) in
      let swap = total_swap (λ j u. keyed (key_of unit) (con j).id (λ v. 3) u) m n in
      let rows = total_bound (λ u. total (λ j. keyed (key_of unit) (con j).id (λ v. 3) u) n) 3 m (λ u l. counted_once (key_of unit) (id_of con) (λ v. 3) n r u) in
      rw (joined_length (con_lines_at entry con unit m account own) n) (omega arith)

-- ---- contracts

-- a contract has no line in a region, or two
region_two : (entry own : ℕ → Entry) (k : Contract) (g : ℕ) → length (region_lines entry own k g) ≤ 2
unfolding region_lines
region_two entry own k g = choice_bound (eqb (factor_of k.factors g) 0) _ _ 2 (omega arith) (omega arith)

module _ (entry own : Source → ℕ → Entry) where
  -- so ten at most in all
  contract_ten : (contract : ℕ → Contract) (i : ℕ) → length (contract_lines_at entry own contract i) ≤ 10
  unfolding contract_lines_at
  contract_ten contract i = omega (arith, joined_bound (region_lines (entry (settled_by (contract i))) (own (settled_by (contract i))) (contract i)) 2 5 (region_two (entry (settled_by (contract i))) (own (settled_by (contract i))) (contract i)))

  -- ten lines at most for each contract
  pub few_pays : (contract : ℕ → Contract) (n : ℕ) → length (joined (contract_lines_at entry own contract) n) ≤ 10 * n
  few_pays contract n = omega (arith, joined_bound (contract_lines_at entry own contract) 10 n (contract_ten contract))
