-- The balance of each kind of pool is what one pass over the rows meets: sums over all accounts count each row once. Assumes nothing.
use Prim.Native.Nat.{ℕ, zero, suc, ◌+◌, ◌*◌, ◌<◌}
use mathlib.Core.Path.{◌≡◌, sym, ap, ap₂, ◌∙◌}
use mathlib.Core.Bool.{Bool, true, false, cond}
use mathlib.Core.List.{[], List, ◌∷◌}
use native.Mathlib.Omega.{arith}
use lib.Dec.{eqb}
use lib.IntN.{ℤ, pos}
use lib.ListN.{length}
use Rattle.numbers.specs.Sign.{less}
use Rattle.sections.specs.Total.{total, keyed}
use Rattle.sections.proofs.Total.{total_same}
use Rattle.rules.specs.Rules.{factor_of}
use Rattle.records.specs.declared.rows.UnitRow.{UnitRow}
use Rattle.records.specs.declared.rows.Contract.{Contract}
use Rattle.locking.specs.Locking.{settled_by, pick}
use Rattle.locking.specs.declared.Source.{Source}
use Rattle.locking.specs.declared.Source.TheVariants.{Current, Locked}
use Rattle.factors.specs.Naming.{key_of}
use Rattle.factors.specs.Factors.{sum_over}
use Rattle.book.specs.Book.{Book}
use Rattle.book.specs.Inner.Accepted.{Promise}
use Rattle.accounts.specs.Rows.{sum_of}
use Rattle.accounts.specs.Inner.Energies.{energies_of}
use Rattle.sharing.specs.Accounts.{energy_account}
use Rattle.sharing.specs.Inner.Shares.{share_in, part_sum}
use Rattle.sharing.specs.declared.shares.Part.{Part}
use Rattle.sharing.proofs.Sums.{sum_same, sum_plus, sum_none, sum_less}
use Rattle.sharing.proofs.Once.{EachOnce}
use Rattle.sharing.proofs.Everyone.{energies_once, units_once, locked_energies_once, each_once_unit, part_everyone}
use Rattle.settlement.specs.Settle.{lines_for}
use Rattle.balance.specs.Pools.{Pool, constraint_pool, contract_pool, in_pool}
use Rattle.recovery.specs.Recovers.{recovers, benefiting}
use Rattle.balance.specs.Balance.{accounts_of, pool_lines, line_count, line_sum, balance_in}
use Rattle.balance.specs.Inner.Shapes.{belongs, contingency_shape, regulation_shape, contract_shape}
use Rattle.recovery.specs.Inner.Shapes.{unit_rows, unit_credit, unit_charge, consumed_part, sent_part, region_paid}
use Rattle.recovery.specs.declared.kinds.Kind.{Kind}
use Rattle.recovery.specs.declared.kinds.Kind.TheVariants.{Contingency}
use Rattle.balance.proofs.Kept.{Kept}
use Rattle.balance.proofs.PoolLines.{own_units, region_share, contingency_lines, regulation_lines, contract_lines_lem}

-- ---- sums over a list

module _ {A : Type 0} where
  sum_each : (x : ℕ) (l : List A) → sum_of (λ a. x) l ≡ length l * x
  unfolding sum_of
  sum_each x [] = omega arith
  sum_each x (a ∷ l) = omega (arith, sum_each x l)

  -- a table's numbers, summed row by row or column by column
  sum_total : (f : ℕ → A → ℕ) (n : ℕ) (l : List A) → sum_of (λ a. total (λ g. f g a) n) l ≡ total (λ g. sum_of (f g) l) n
  unfolding total
  sum_total f zero l = sum_none l
  sum_total f (suc n) l = sum_plus (λ a. total (λ g. f g a) n) (f n) l ∙ ap (λ (x : ℕ). x + sum_of (f n) l) (sum_total f n l)

-- the same number for each record that a test does not exclude
pub count_times : (t : ℕ → Bool) (x n : ℕ) → total (λ g. cond (t g) 0 x) n ≡ total (λ g. cond (t g) 0 1) n * x
unfolding total
count_times t x zero = omega arith
count_times t x (suc n) = by (t n) (count_times t x n)
  where
    by : (b : Bool) → total (λ g. cond (t g) 0 x) n ≡ total (λ g. cond (t g) 0 1) n * x → total (λ g. cond (t g) 0 x) n + cond b 0 x ≡ (total (λ g. cond (t g) 0 1) n + cond b 0 1) * x
    by true e = omega arith
    by false e = omega arith

-- ---- all lines of a pool, from each account's

module _ (B L : Book) (p : Pool) (n c d : ℕ → ℕ) (h : (a : ℕ) → Kept (in_pool p) (lines_for B L a) (n a) (c a) (d a)) where
  count_is : line_count B L p ≡ sum_of n (accounts_of B L)
  unfolding line_count pool_lines
  count_is = sum_same _ n (accounts_of B L) (λ a. (h a).lines)

  sum_is : line_sum B L p ≡ less (sum_of c (accounts_of B L)) (sum_of d (accounts_of B L))
  unfolding line_sum pool_lines
  sum_is = sum_less _ c d (accounts_of B L) (λ a. (h a).sum)

  -- so the balance is as these sums are
  balance_is : {x y z : ℕ} → sum_of n (accounts_of B L) ≡ x → sum_of c (accounts_of B L) ≡ y → sum_of d (accounts_of B L) ≡ z → balance_in B L p ≡ record { amount = pos p.amount; lines = x; sum = less y z }
  unfolding balance_in
  balance_is e f g = ap₂ (λ (l : ℕ) (s : ℤ). record { amount = pos p.amount; lines = l; sum = s }) (count_is ∙ e) (sum_is ∙ ap₂ less f g)

-- ---- sums over the accounts of both books

module _ (B L : Book) where
  ones : sum_of (λ a. 1) (accounts_of B L) ≡ length (accounts_of B L)
  ones = omega (arith, sum_each 1 (accounts_of B L))

  -- count each unit row once
  pub unit_rows_once : (id : ℕ) (f : UnitRow → ℕ) → sum_of (λ a. own_units B a id f) (accounts_of B L) ≡ sum_over B.unit B.header.units id f
  unfolding own_units
  unit_rows_once id f =
      each_once_unit B.unit B.header.units (accounts_of B L) (units_once B.energy B.header.energies B.unit B.header.units L.energy L.header.energies L.unit L.header.units)
      (λ u. keyed (key_of B.unit) id (λ u. f (B.unit u)) u)

  -- the account of each energy row, of the one book or the other, stands once among them
  pub once_in : (s : Source) → EachOnce (energy_account (pick s B L).energy) (pick s B L).header.energies (accounts_of B L)
  once_in Current = energies_once B.energy B.header.energies B.unit B.header.units L.energy L.header.energies L.unit L.header.units
  once_in Locked = locked_energies_once B.energy B.header.energies B.unit B.header.units L.energy L.header.energies L.unit L.header.units

  -- so shares are those over the accounts that energy rows name
  pub shares_once : (s : Source) (x : Part) → sum_of (share_in x (pick s B L).energy (pick s B L).header.energies) (accounts_of B L) ≡ part_sum x (pick s B L).energy (pick s B L).header.energies
  shares_once s x = sym (part_everyone x (pick s B L).energy (pick s B L).header.energies (accounts_of B L) (once_in s))

-- ---- the balance of each kind of pool

module _ {B L : Book} (p : Promise B L) where
  pub contingency_balance : (j : ℕ) → j < B.header.constraints → (B.constraint j).mode ≡ 0 → balance_in B L (constraint_pool (B.constraint j) Contingency) ≡ contingency_shape (energies_of B) (length (accounts_of B L)) (B.constraint j)
  unfolding constraint_pool recovers contingency_shape
  contingency_balance j l e =
      balance_is B L (constraint_pool (B.constraint j) Contingency) _ _ _ (λ a. contingency_lines p a j l e)
      (ones B L) (sum_none (accounts_of B L)) (shares_once B L Current _)

  pub regulation_balance : (j : ℕ) (kind : Kind) → j < B.header.constraints → ((B.constraint j).mode ≡ 0 → ⊥) → belongs (B.constraint j) kind ≡ true → balance_in B L (constraint_pool (B.constraint j) kind) ≡ regulation_shape B (length (accounts_of B L)) (B.constraint j) kind
  unfolding constraint_pool regulation_shape unit_rows unit_credit unit_charge
  regulation_balance j kind l live h =
      balance_is B L (constraint_pool (B.constraint j) kind) _ _ _ (λ a. regulation_lines p a j kind l live h)
      (sum_plus _ _ (accounts_of B L) ∙ ap₂ ◌+◌ (unit_rows_once B L _ _) (ones B L))
      (sum_plus _ _ (accounts_of B L) ∙ ap₂ ◌+◌ (unit_rows_once B L _ _) (shares_once B L Current _))
      (sum_plus _ _ (accounts_of B L) ∙ ap₂ ◌+◌ (unit_rows_once B L _ _) (shares_once B L Current _))

  -- two lines of each account in each region that benefits
  contract_count : (i : ℕ) → sum_of (λ a. total (λ g. cond (eqb (factor_of (B.contract i).factors g) 0) 0 2) 5) (accounts_of B L) ≡ benefiting (B.contract i) * (2 * length (accounts_of B L))
  unfolding benefiting
  contract_count i =
      sum_each _ (accounts_of B L) ∙ rw (count_times (λ g. eqb (factor_of (B.contract i).factors g) 0) 2 5) (omega arith)

  region_sum_lem : (s : Source) (k : Contract) (g : ℕ) → sum_of (λ a. cond (eqb (factor_of k.factors g) 0) 0 (region_share (energies_of (pick s B L)) a k g)) (accounts_of B L) ≡ region_paid (energies_of (pick s B L)) k g
  unfolding region_paid
  region_sum_lem s k g = by (eqb (factor_of k.factors g) 0)
    where
      by : (t : Bool) → sum_of (λ a. cond t 0 (region_share (energies_of (pick s B L)) a k g)) (accounts_of B L) ≡ cond t 0 (part_sum (consumed_part (pick s B L).entry k g) (pick s B L).energy (pick s B L).header.energies + part_sum (sent_part (pick s B L).entry k g) (pick s B L).energy (pick s B L).header.energies)
      by true = sum_none (accounts_of B L)
      by false = sum_plus _ _ (accounts_of B L) ∙ ap₂ ◌+◌ (shares_once B L s _) (shares_once B L s _)

  pub contract_balance : (i : ℕ) → i < B.header.contracts → balance_in B L (contract_pool (B.contract i)) ≡ contract_shape (energies_of (pick (settled_by (B.contract i)) B L)) (length (accounts_of B L)) (B.contract i)
  unfolding contract_pool contract_shape
  contract_balance i l =
      balance_is B L (contract_pool (B.contract i)) _ _ _ (λ a. contract_lines_lem p a i l)
      (contract_count i)
      (sum_none (accounts_of B L))
      (sum_total (λ g a. cond (eqb (factor_of (B.contract i).factors g) 0) 0 (region_share (energies_of (pick (settled_by (B.contract i)) B L)) a (B.contract i) g)) 5 (accounts_of B L) ∙ total_same _ _ 5 (λ g m. region_sum_lem (settled_by (B.contract i)) (B.contract i) g))
