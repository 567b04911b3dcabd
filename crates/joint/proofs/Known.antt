-- Whether an account is known: among energy rows in order, in a book, and what a unit row of the locked book then adds. Assumes nothing.
use Prim.Native.Nat.{ℕ}
use mathlib.Core.Path.{◌≡◌, refl, ◌∙◌, sym}
use mathlib.Core.List.{List}
use mathlib.Core.Bool.{Bool, true, false, ◌||◌, or-true}
use borrow.Author.Tests.{eq-eqb, le-ltb}
use native.Mathlib.Omega.{arith}
use native.Mathlib.Nat.{le_refl}
use lib.Dec.{eqb}
use Rattle.sections.specs.Inner.Order.{Keeps}
use Rattle.sections.specs.Inner.Walk.{Stands, at_key}
use Rattle.sections.proofs.Search.{some_here}
use Rattle.sections.proofs.Walk.{at_key_lem, run_start, run_over, run_any}
use Rattle.records.specs.declared.rows.UnitRow.{UnitRow}
use Rattle.records.specs.declared.rows.EnergyRow.{EnergyRow}
use Rattle.sharing.specs.Once.{has}
use Rattle.sharing.specs.Inner.Seen.{seen, newly}
use Rattle.sharing.specs.Accounts.{energy_account, unit_account, accounts_in}
use Rattle.sharing.proofs.Everyone.{is_account}
use Rattle.joint.specs.Names.{energies_of, units_of}
use Rattle.joint.specs.Inner.Added.{unit_adds}
use Rattle.joint.specs.declared.NamingRows.{NamingRows}

-- of names in order, the record at a name's place tells whether it was seen
pub place_seen : (name : ℕ → ℕ) (n a u : ℕ) → Keeps name n → Stands name n a u → at_key name n a u ≡ seen name n a
unfolding seen
place_seen name n a u o s = by (at_key name n a u) refl
  where
    by : (t : Bool) → at_key name n a u ≡ t → t ≡ seen name n a
    by true e =
        let here = at_key_lem name n a u e in
        sym (some_here (λ i. eqb (name i) a) n u here.0 (eq-eqb (name u) a here.1))
    by false e = sym (le-ltb u u (le_refl u)) ∙ run_any name n a u u s (run_over name n a u o (run_start name n a u s) e)

-- a book has the accounts of its unit rows and of its energy rows
module _ (energy : ℕ → EnergyRow) (n : ℕ) (unit : ℕ → UnitRow) (m a : ℕ) {t : Bool} (e : t ≡ seen (unit_account unit) m a) where
  pub in_units : t ≡ true → true ≡ has a (accounts_in energy n unit m)
  unfolding seen
  in_units h = rw (is_account energy n unit m a, ← e, h)

  pub in_energies : {s : Bool} → t ≡ false → s ≡ seen (energy_account energy) n a → s ≡ has a (accounts_in energy n unit m)
  unfolding seen
  in_energies h d = rw (is_account energy n unit m a, ← e, h) d

-- what unit row u of the locked book adds, where k says whether the first book has its account
module _ (locked : List ℕ) (q : NamingRows) (k : Bool) (u : ℕ) where
  pub adds_known : k ≡ true → 0 ≡ unit_adds locked q k u
  unfolding unit_adds
  adds_known h = rw (h, or-true, or-true)

  -- x is what it adds to the accounts of the unit rows alone
  module _ {x : ℕ} (e : x ≡ newly (seen (unit_account (units_of locked q)) u (units_of locked q u).account)) where
    pub adds_before : x ≡ 0 → 0 ≡ unit_adds locked q k u
    unfolding unit_adds
    adds_before h = by (seen (unit_account (units_of locked q)) u (units_of locked q u).account) e
      where
        by : (s : Bool) → x ≡ newly s → 0 ≡ newly (s || (seen (energy_account (energies_of locked q)) q.n (units_of locked q u).account || k))
        by true d = refl
        by false d = absurd (omega (arith, d, h))

    pub adds_new : {a : ℕ} {g : Bool} → (x ≡ 0 → ⊥) → a ≡ (units_of locked q u).account → g ≡ seen (energy_account (energies_of locked q)) q.n a → g ≡ false → k ≡ false → 1 ≡ unit_adds locked q k u
    unfolding unit_adds
    adds_new d i j h y =
        let none : seen (energy_account (energies_of locked q)) q.n (units_of locked q u).account ≡ false = rw (← i) (sym j ∙ h) in
        rw (none, y) (by (seen (unit_account (units_of locked q)) u (units_of locked q u).account) e)
      where
        by : (s : Bool) → x ≡ newly s → 1 ≡ newly (s || false)
        by true c = absurd (d c)
        by false c = refl

  -- an energy row names its account, a
  pub adds_energy : {a : ℕ} {g : Bool} → a ≡ (units_of locked q u).account → g ≡ seen (energy_account (energies_of locked q)) q.n a → g ≡ true → 0 ≡ unit_adds locked q k u
  unfolding unit_adds
  adds_energy i j h = rw (← i, ← j, h, or-true)
