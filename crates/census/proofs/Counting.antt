-- Accounts counted row by row: whether a row's account is known, and what the count comes to. Assumes nothing.
use Prim.Native.Nat.{ℕ, zero, suc, ◌+◌, ◌-◌, ◌≤◌, ◌<◌}
use mathlib.Core.Path.{◌≡◌, refl, sym}
use mathlib.Core.List.{List, []}
use mathlib.Core.Bool.{Bool, true, false, or-true, or-false}
use native.Mathlib.Omega.{arith}
use native.Mathlib.Numerals.{add-one}
use native.Mathlib.Nat.{le_refl}
use borrow.Author.Tests.{eqb-true, eqb-false}
use lib.Dec.{eqb}
use lib.ListN.{length}
use Rattle.sections.specs.Search.{some}
use Rattle.sections.specs.Total.{total}
use Rattle.sections.specs.Inner.Order.{Keeps}
use Rattle.records.specs.declared.rows.UnitRow.{UnitRow}
use Rattle.records.specs.declared.rows.EnergyRow.{EnergyRow}
use Rattle.sharing.specs.Once.{has, named}
use Rattle.sharing.specs.Inner.Seen.{seen, newly}
use Rattle.sharing.specs.Accounts.{energy_account, unit_account, accounts_in}
use Rattle.sharing.specs.Inner.Shares.{Sorted}
use Rattle.sharing.proofs.Once.{seen_each, seen_none, has_named, length_join, length_named, named_turned}
use Rattle.sharing.proofs.Everyone.{accounts_few}

-- ---- whether a row's account is known

-- of names in order, the one before tells whether a name was seen
module _ (name : ℕ → ℕ) (i : ℕ) where
  pub on_start : i ≡ 0 → false ≡ seen name i (name i)
  unfolding seen some
  on_start e = rw e

  pub on_told : {n a b : ℕ} → Keeps name n → i < n → (i ≡ 0 → ⊥) → a ≡ name (i - 1) → b ≡ name i → eqb a b ≡ seen name i (name i)
  on_told {n} {a} {b} o l z p q = rw (p, q) (by (eqb (name (i - 1)) (name i)) refl)
    where
      by : (t : Bool) → eqb (name (i - 1)) (name i) ≡ t → t ≡ seen name i (name i)
      by true e = sym (rw (eqb-true (name (i - 1)) (name i) e) at (seen_each name i (i - 1) (omega arith)))
      by false e =
          let d : name (i - 1) ≡ name i → ⊥ = eqb-false (name (i - 1)) (name i) e in
          sym (seen_none name i (name i) (λ k m w. omega (arith, o.keep k (i - 1) (omega arith) (omega arith), o.keep (i - 1) i (omega arith) l, d)))

-- a is the name of record i, and t says whether a record before gives it
module _ (name : ℕ → ℕ) (i : ℕ) {a : ℕ} {t : Bool} where
  pub seen_old : a ≡ name i → t ≡ seen name i a → t ≡ true → 0 ≡ newly (seen name i (name i))
  seen_old q e h = rw (← q, ← e, h)

  pub seen_new : a ≡ name i → t ≡ seen name i a → t ≡ false → 1 ≡ newly (seen name i (name i))
  seen_new q e h = rw (← q, ← e, h)

-- a is the name of record i, f says whether a record before gives it, and t whether it stands in a list
module _ (name : ℕ → ℕ) (i : ℕ) (l : List ℕ) where
  abbrev known : ℕ → Bool
  known a = has a (named name i l)

  pub known_before : {f : Bool} → f ≡ seen name i (name i) → f ≡ true → 0 ≡ newly (known (name i))
  known_before e h = rw (has_named name i l (name i), ← e, h)

  pub known_other : {a : ℕ} {t : Bool} → a ≡ name i → t ≡ has a l → t ≡ true → 0 ≡ newly (known (name i))
  known_other q e h = rw (has_named name i l (name i), ← q, ← e, h, or-true)

  pub known_new : {a : ℕ} {f t : Bool} → f ≡ seen name i (name i) → f ≡ false → a ≡ name i → t ≡ has a l → t ≡ false → 1 ≡ newly (known (name i))
  known_new p h q e k = rw (has_named name i l (name i), ← p, h, ← q, ← e, k)

-- among names that records alone give stand those that were seen
pub seen_has : (name : ℕ → ℕ) (n a : ℕ) → seen name n a ≡ has a (named name n [])
unfolding has
seen_has name n a = rw (has_named name n [] a, or-false)

-- ---- a count, turn by turn

module _ (name : ℕ → ℕ) (l : List ℕ) where
  pub count_none : length l ≡ length (named name 0 l)
  unfolding named
  count_none = refl

  -- x is what record i adds
  pub count_more : (i : ℕ) {c x : ℕ} → c ≡ length (named name i l) → x ≡ newly (has (name i) (named name i l)) → c + x ≡ length (named name (i + 1) l)
  unfolding named
  count_more i p q = rw (add-one, p, q) (sym (length_join (name i) (named name i l)))

  -- all that n records add
  pub count_all : (add : ℕ → ℕ) (n : ℕ) → ((i : ℕ) → i < n → add i ≡ newly (has (name i) (named name i l))) → length l + total add n ≡ length (named name n l)
  unfolding named total
  count_all add zero h = omega arith
  count_all add (suc n) h =
      let before = count_all add n (λ i m. h i (omega arith)) in
      rw (length_join (name n) (named name n l), ← before, ← h n (le_refl (suc n))) (omega arith)

  pub count_few : (i : ℕ) {c : ℕ} → c ≡ length (named name i l) → c ≤ i + length l
  count_few i e = rw e (length_named name i l)

-- of records alone, by what was seen before
pub count_seen : (name : ℕ → ℕ) (i : ℕ) {c x : ℕ} → c ≡ length (named name i []) → x ≡ newly (seen name i (name i)) → c + x ≡ length (named name (i + 1) [])
count_seen name i p q = count_more name [] i p (rw (← seen_has name i (name i)) q)

-- the accounts counted from the unit rows on are as many
pub accounts_turned : (energy : ℕ → EnergyRow) (n : ℕ) (unit : ℕ → UnitRow) (m : ℕ) → length (named (energy_account energy) n (named (unit_account unit) m [])) ≡ length (accounts_in energy n unit m)
unfolding accounts_in
accounts_turned energy n unit m = named_turned (energy_account energy) (unit_account unit) n m

-- an accepted book has at most 1,024 energy rows and 600 unit rows
pub accounts_fit : {energy : ℕ → EnergyRow} {n : ℕ} (unit : ℕ → UnitRow) (u : ℕ) {c : ℕ} → Sorted energy n → u ≤ 600 → c ≡ length (accounts_in energy n unit u) → c ≤ 1624
accounts_fit {energy} {n} unit u s l e = rw e (omega (arith, s.few, accounts_few energy n unit u))
