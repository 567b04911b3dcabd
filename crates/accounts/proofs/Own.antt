-- What was found over a book's rows, said of the account's own rows; and in a sound book its energy is at most its region's.
-- Assumes nothing.
use Prim.Native.Nat.{ℕ, ◌<◌}
use mathlib.Core.Path.{◌≡◌, refl, sym, ◌∙◌}
use mathlib.Core.Bool.{Bool, true, false, cond, not, ◌&&◌}
use lib.Dec.{eqb}
use Rattle.rules.specs.Inner.Facts.{EntryRule}
use Rattle.records.specs.declared.rows.EnergyRow.{EnergyRow}
use Rattle.totals.specs.Inner.Totals.{Five, entry_of}
use Rattle.totals.specs.Sums.{row_by}
use Rattle.totals.proofs.Turns.{entry_with_lem, under_rule, totals_once}
use Rattle.book.specs.Book.{Book}
use Rattle.book.specs.Inner.Accepted.{own_total, AtMostEntry, Sound}
use Rattle.accounts.specs.Rows.{rows_of, keep, sum_of, none}
use Rattle.accounts.specs.Account.{rows_of_account, own_by, own_energy, unknown}
use Rattle.accounts.specs.Inner.Held.{HeldIs}
use Rattle.totals.specs.declared.entries.Totals.{Totals}
use Rattle.accounts.proofs.Lists.{total_rows}

both : (a b : Bool) (x : ℕ) → cond (a && b) x 0 ≡ cond a (cond b x 0) 0
both true b x = refl
both false b x = refl

-- the sum by index is the sum over the account's rows
pub own_in_lem : (B : Book) (account g : ℕ) (f : EnergyRow → ℕ) → own_total B account g f ≡ sum_of (λ r. cond (eqb r.region g) (f r) 0) (rows_of_account B account).energies
unfolding own_total rows_of_account
own_in_lem B account g f =
    total_rows B.energy (λ r. eqb r.account account) (λ r. cond (eqb r.region g) (f r) 0) _
    (λ i. both (eqb (B.energy i).account account) (eqb (B.energy i).region g) (f (B.energy i)))
    B.header.energies

module _ {B : Book} (h : Sound B) (account g : ℕ) where
  pub own_within : g < 5 → AtMostEntry (B.entry g) (own_energy (rows_of_account B account).energies g)
  unfolding own_energy
  own_within l =
      record {
        each = λ b. rw (entry_with_lem (own_by (rows_of_account B account).energies g) b, ← own_in_lem B account g (row_by b), ← entry_with_lem (λ b. own_total B account g (row_by b)) b) ((h.own account g l).each b);
      }

  -- so it keeps an entry's rule
  pub own_rule : g < 5 → EntryRule (own_energy (rows_of_account B account).energies g)
  own_rule l = under_rule (own_within l).each (h.fields.entries g l)

-- ---- what was found

-- no second thing fits
pub held_once : (energy : ℕ → EnergyRow) (n account : ℕ) {h k : Totals} {x y : Bool} → Five h → Five k → HeldIs energy n account h x → HeldIs energy n account k y → (h ≡ k) × (x ≡ y)
held_once energy n account {h} {k} l m f g = (totals_once h k l m (λ r b. f.own r b ∙ sym (g.own r b)), f.any ∙ sym g.any)

module _ (B : Book) {account : ℕ} {own : Totals} {any : Bool} (f : HeldIs B.energy B.header.energies account own any) where
  -- the energy is that of the account's rows
  pub held_own : (g : ℕ) → g < 5 → entry_of own g ≡ own_energy (rows_of_account B account).energies g
  unfolding rows_of_account
  held_own g l = f.own g l

  -- 11: neither a unit row nor an energy row was found
  pub held_unknown : {u : Bool} → u ≡ not (none (keep (λ r. eqb r.account account) (rows_of B.unit B.header.units))) → not u && not any ≡ unknown (rows_of_account B account)
  unfolding rows_of_account
  held_unknown e = rw (e, f.any) (by (none (rows_of_account B account).units) (none (rows_of_account B account).energies))
    where
      by : (a b : Bool) → not (not a) && not (not b) ≡ a && b
      by true true = refl
      by true false = refl
      by false b = refl
