-- Energy rows one by one: where a part counts a single region, an account has at most one row in it, so that what all accounts share is what their
-- rows share. Assumes nothing.
use Prim.Native.Nat.{ℕ, zero, suc, ◌*◌, ◌<◌}
use mathlib.Core.Path.{◌≡◌, refl, sym, ap, ◌∙◌}
use mathlib.Core.List.{[]}
use mathlib.Core.Bool.{Bool, true, false, cond}
use native.Mathlib.Omega.{arith}
use native.Mathlib.Nat.{le_refl, add-zero, zero-add}
use borrow.Author.Tests.{eqb-true, eqb-false, ne_eqb}
use lib.Dec.{eqb}
use Rattle.numbers.specs.Round.{round_n}
use Rattle.numbers.proofs.Rounding.{share_nothing}
use Rattle.sections.specs.Total.{total, keyed, total_of}
use Rattle.sections.proofs.Total.{total_zero, total_same}
use Rattle.market.specs.Kinds.{bit_set}
use Rattle.records.specs.declared.rows.EnergyRow.{EnergyRow}
use Rattle.totals.specs.Sums.{row_by}
use Rattle.sharing.specs.Once.{named}
use Rattle.sharing.specs.Accounts.{energy_account}
use Rattle.sharing.specs.Inner.Shares.{energy_in, own_in_part, share_in, part_sum, Sorted}
use Rattle.sharing.specs.declared.shares.Part.{Part}
use Rattle.sharing.proofs.Sums.{sum_same}
use Rattle.sharing.proofs.Once.{seen_each, sum_each, names_once}
use Rattle.sharing.proofs.Everyone.{share_choice}

-- ---- of numbers of which one at most is not 0, what is made of the sum is the sum of what is made of each

module _ (make : ℕ → ℕ) (none : make 0 ≡ 0) (f : ℕ → ℕ) where
  total_lone : (n : ℕ) → ((i j : ℕ) → i < j → j < n → (f j ≡ 0 → ⊥) → f i ≡ 0) → make (total f n) ≡ total (λ i. make (f i)) n
  unfolding total
  total_lone zero h = none
  total_lone (suc n) h = by (eqb (f n) 0) refl (total_lone n (λ i j l m. h i j l (omega arith)))
    where
      by : (t : Bool) → eqb (f n) 0 ≡ t → make (total f n) ≡ total (λ i. make (f i)) n → make (total f (suc n)) ≡ total (λ i. make (f i)) (suc n)
      by true e before = rw (eqb-true (f n) 0 e, none, add-zero (total f n), add-zero (total (λ i. make (f i)) n)) before
      by false e before =
          let rest : (i : ℕ) → i < n → f i ≡ 0 = λ i l. h i n l (le_refl (suc n)) (eqb-false (f n) 0 e) in
          rw (← total_zero f n rest, ← total_zero (λ i. make (f i)) n (λ i l. ap make (rest i l) ∙ none), zero-add (f n), zero-add (make (f n)))

-- ---- a part that counts the rows of region g

module _ (p : Part) (energy : ℕ → EnergyRow) (n g : ℕ) (s : Sorted energy n) (one : (i : ℕ) → i < n → bit_set p.mask (energy i).region ≡ eqb (energy i).region g) where
  counts : (i : ℕ) → i < n → energy_in p (energy i) ≡ cond (eqb (energy i).region g) (row_by p.basis (energy i)) 0
  unfolding energy_in
  counts i l = rw (one i l)

  counts_not : (i : ℕ) → i < n → ((energy i).region ≡ g → ⊥) → energy_in p (energy i) ≡ 0
  counts_not i l d = counts i l ∙ rw (ne_eqb (energy i).region g d)

  -- of two rows of an account one at most counts: their regions differ
  apart : (a i j : ℕ) → i < j → j < n → (cond (eqb (energy j).account a) (energy_in p (energy j)) 0 ≡ 0 → ⊥) → cond (eqb (energy i).account a) (energy_in p (energy i)) 0 ≡ 0
  apart a i j l m d = by (eqb (energy i).account a) refl (eqb (energy j).account a) refl (eqb (energy i).region g) refl (eqb (energy j).region g) refl
    where
      by : (t : Bool) → eqb (energy i).account a ≡ t → (u : Bool) → eqb (energy j).account a ≡ u → (v : Bool) → eqb (energy i).region g ≡ v → (w : Bool) → eqb (energy j).region g ≡ w → cond t (energy_in p (energy i)) 0 ≡ 0
      by false e u f v q w r = refl
      by true e false f v q w r = absurd (d (rw f))
      by true e true f false q w r = counts_not i (omega arith) (eqb-false _ g q)
      by true e true f true q false r = absurd (d (rw f (counts_not j m (eqb-false _ g r))))
      by true e true f true q true r =
          absurd (omega (arith, s.order.second i j l m (eqb-true _ a e ∙ sym (eqb-true _ a f)), eqb-true _ g q, eqb-true _ g r))

  -- so an account's share is that of its rows
  share_rows : (a : ℕ) → share_in p energy n a ≡ total (λ i. cond (eqb (energy i).account a) (round_n (p.amount * energy_in p (energy i)) p.whole) 0) n
  unfolding share_in own_in_part
  share_rows a =
      total_lone (λ x. round_n (p.amount * x) p.whole) (sym (share_nothing p.amount p.whole refl)) _ n (apart a)
      ∙ total_same _ _ n (λ i l. share_choice p.amount p.whole (eqb (energy i).account a) (energy_in p (energy i)))

  -- and the shares of all accounts are those of the region's rows
  pub part_rows : part_sum p energy n ≡ total_of (λ i. (energy i).region) g (λ i. round_n (p.amount * row_by p.basis (energy i)) p.whole) n
  unfolding part_sum keyed
  part_rows =
      let accounts = named (energy_account energy) n [] in
      sum_same _ _ accounts share_rows
      ∙ sum_each (energy_account energy) _ accounts n (λ k l. (names_once (energy_account energy) n).once (energy k).account (seen_each (energy_account energy) n k l))
      ∙ total_same _ _ n (λ i l. ap (λ (x : ℕ). round_n (p.amount * x) p.whole) (counts i l) ∙ share_choice p.amount p.whole (eqb (energy i).region g) (row_by p.basis (energy i)))
