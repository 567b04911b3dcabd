-- A search for an account among unit rows; its sums over its own energy rows, turn by turn, and what they are at the end. Assumes nothing.
use Prim.Native.Nat.{ℕ, ◌+◌, ◌≤◌, ◌<◌}
use mathlib.Core.Path.{◌≡◌, refl, sym, ap, ◌∙◌}
use mathlib.Core.Bool.{Bool, true, false, cond, not}
use native.Mathlib.Omega.{arith}
use borrow.Author.Tests.{eq-eqb, ne_eqb}
use lib.Dec.{eqb, ltb}
use lib.ListN.{replicate}
use Rattle.sections.specs.Total.{keyed}
use Rattle.sections.specs.Inner.Order.{Keeps}
use Rattle.sections.specs.Inner.Walk.{Stands, Past, at_key}
use Rattle.sections.proofs.Search.{some_none, some_here}
use Rattle.sections.proofs.Total.{keyed_hit, keyed_le}
use Rattle.sections.proofs.Groups.{split_rest}
use Rattle.sections.proofs.Walk.{Run, run_start, run_next, run_over, run_any, at_none, at_key_lem, before_run, behind_run}
use Rattle.market.specs.declared.Basis.{Basis}
use Rattle.rules.specs.Inner.Facts.{EnergyRule}
use Rattle.records.specs.declared.rows.UnitRow.{UnitRow}
use Rattle.records.specs.declared.rows.EnergyRow.{EnergyRow}
use Rattle.totals.specs.Sums.{row_by, region_of, energy_of}
use Rattle.totals.specs.Inner.Totals.{sum_at}
use Rattle.totals.specs.Inner.Turns.{SumsOf, SumRoom, Added}
use Rattle.totals.specs.declared.entries.Totals.{Totals}
use Rattle.totals.proofs.Turns.{entry_with_lem, entries_are, row_small, sums_nothing, sums_more, sums_room}
use Rattle.accounts.specs.Rows.{rows_of, keep, none}
use Rattle.accounts.specs.Account.{own_by, own_energy}
use Rattle.accounts.specs.Inner.Held.{HeldIs}
use Rattle.accounts.proofs.Lists.{total_rows, some_rows}

-- ---- unit rows

module _ (unit : ℕ → UnitRow) (m account : ℕ) where
  -- row i, q, is the account's
  pub unit_found : (i : ℕ) {q : UnitRow} → i < m → q ≡ unit i → q.account ≡ account → true ≡ not (none (keep (λ r. eqb r.account account) (rows_of unit m)))
  unit_found i l e h =
      sym (some_here _ m i l (eq-eqb (unit i).account account (rw e at h))) ∙ some_rows unit (λ r. eqb r.account account) m

  -- none of all the rows is
  pub unit_none : (i : ℕ) → ((k : ℕ) → k < i → (unit k).account ≡ account → ⊥) → m ≤ i → false ≡ not (none (keep (λ r. eqb r.account account) (rows_of unit m)))
  unit_none i h l =
      sym (some_none _ m (λ k b. ne_eqb (unit k).account account (h k (omega arith)))) ∙ some_rows unit (λ r. eqb r.account account) m

-- ---- energy rows

module _ (energy : ℕ → EnergyRow) (n account : ℕ) where
  abbrev account_of : ℕ → ℕ
  account_of i = (energy i).account

  -- what row i counts for
  abbrev mine_of : Basis → ℕ → ℕ
  mine_of b = keyed account_of account (energy_of b energy)

  -- the sums over those of the first i rows that are the account's; the rows from i on are of no account before it
  pub record Sums (i : ℕ) (o : Totals) : Type 0 where
    pub run : Run account_of n account i
    pub own : SumsOf energy mine_of i o

  -- before the account's rows there is nothing to add
  pub sums_start : (i : ℕ) → Stands account_of n account i → Sums i (record { ace = replicate 5 0; asoe = replicate 5 0; residual = replicate 5 0 })
  sums_start i s = record { run = run_start _ n account i s; own = sums_nothing energy mine_of i (λ b. before_run _ n account _ i s) }

  -- row i is there, and the account's
  module _ (i : ℕ) {o : Totals} {t : Bool} (s : Sums i o) (e : t ≡ at_key account_of n account i) (h : t ≡ true) where
    pub own_at : (i < n) × ((energy i).account ≡ account)
    own_at = at_key_lem account_of n account i (rw e at h)

    -- r is row i
    module _ {r : EnergyRow} (q : r ≡ energy i) (rules : (i : ℕ) → i < n → EnergyRule (energy i)) where
      own_region : r.region < 5
      own_region = rw q (omega (arith, (rules i own_at.0).region))

      -- the sums of at most 1,024 rows are small
      pub own_room : n ≤ 1024 → (r.region < 5) × SumRoom o r.region
      own_room few = (
        own_region,
        sums_room energy mine_of i (omega (arith, own_at.0))
            (λ b j k. keyed_le account_of account (energy_of b energy) 8_589_934_590 j (omega (arith, row_small b (energy j) (rules j (omega (arith, own_at.0))))))
            s.own r.region own_region,
      )

      -- a turn: x has the sums with it
      pub own_more : {x : Totals} → Added o r.region r x → Sums (i + 1) x
      own_more p =
          record {
            run = run_next _ n account i s.run own_at.0 own_at.1;
            own = sums_more energy mine_of i s.own (ap (λ (r : EnergyRow). r.region) q) own_region (λ b. ap (row_by b) q ∙ keyed_hit account_of account (energy_of b energy) i own_at.1) p;
          }

  swapped : (b : Basis) (g i : ℕ) → keyed (region_of energy) g (mine_of b) i ≡ cond (eqb (energy i).account account) (cond (eqb (energy i).region g) (row_by b (energy i)) 0) 0
  unfolding keyed
  swapped b g i = by (eqb (energy i).region g) (eqb (energy i).account account)
    where
      by : (s t : Bool) → cond s (cond t (row_by b (energy i)) 0) 0 ≡ cond t (cond s (row_by b (energy i)) 0) 0
      by true t = refl
      by false true = refl
      by false false = refl

  -- the loop's end, at a row that is not the account's: after its own there is nothing more to add, and it has one where the loop had a turn
  pub sums_end : (a i : ℕ) {o : Totals} {t : Bool} → Keeps account_of n → Stands account_of n account a → Sums i o → t ≡ at_key account_of n account i → t ≡ false → HeldIs energy n account o (ltb a i)
  unfolding own_energy
  sums_end a i {o} k b s e h =
      record {
        own = λ g l. entries_are _ _ (λ b. entry_with_lem (sum_at o g) b ∙ whole b g l ∙ sym (entry_with_lem (own_by (keep (λ r. eqb r.account account) (rows_of energy n)) g) b));
        any = run_any account_of n account a i b past ∙ some_rows energy (λ r. eqb r.account account) n;
      }
    where
      past : Past account_of n account i
      past = run_over account_of n account i k s.run (rw e at h)

      whole : (b : Basis) (g : ℕ) → g < 5 → sum_at o g b ≡ own_by (keep (λ r. eqb r.account account) (rows_of energy n)) g b
      whole b g l =
          (split_rest _ _ 5 i n past.high (behind_run account_of n account _ i past) (s.own.each b)).each g l
          ∙ total_rows energy (λ r. eqb r.account account) (λ r. cond (eqb r.region g) (row_by b r) 0) _ (swapped b g) n

  -- or behind the last row
  pub sums_done : (a i : ℕ) {o : Totals} → Keeps account_of n → Stands account_of n account a → Sums i o → n ≤ i → HeldIs energy n account o (ltb a n)
  sums_done a i {o} k b s l =
      let e : i ≡ n = omega (arith, l, s.run.high) in
      let z : Sums n o = rw e at s in
      sums_end a n k b z (at_none account_of n account n (omega arith)) refl
