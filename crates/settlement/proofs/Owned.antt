-- An account of an accepted book: its lines are those of the walk (lines/specs/Inner/Walks.antt), what the walk rests on holds, and no line passes the
-- limit. Assumes nothing.
use Prim.Native.Nat.{ℕ, ◌≤◌, ◌<◌}
use mathlib.Core.Path.{◌≡◌, refl, sym, ap, subst, ◌∙◌}
use mathlib.Core.Bool.{Bool}
use mathlib.Core.List.{List, [], ◌∷◌}
use lib.ListN.{length}
use Rattle.ground.specs.Units.{most_lines}
use Rattle.ground.specs.Inner.Each.{Each}
use Rattle.sections.proofs.Cases.{five}
use Rattle.records.specs.declared.rows.EnergyRow.{EnergyRow}
use Rattle.totals.specs.Inner.Totals.{entry_of}
use Rattle.totals.specs.declared.entries.Totals.{Totals}
use Rattle.book.specs.Book.{Book}
use Rattle.book.specs.Inner.Accepted.{AtMostEntry, Sound, Promise}
use Rattle.accounts.specs.Account.{rows_of_account, own_energy}
use Rattle.accounts.specs.Inner.Held.{HeldIs}
use Rattle.accounts.specs.declared.energies.OwnEnergies.{OwnEnergies}
use Rattle.accounts.proofs.Own.{own_within, held_own}
use Rattle.lines.specs.Inner.Walks.{book_lines, Walkable}
use Rattle.lines.specs.Limit.{WithinLimit}
use Rattle.lines.proofs.Limit.{book_within}
use Rattle.whole.proofs.Given.{Within, walkable_of}
use Rattle.whole.proofs.Lengths.{few_of}
use Rattle.settlement.specs.Settle.{lines_for}
use Rattle.settlement.specs.Inner.Own.{OwnIn, OwnIs}
use Rattle.settlement.proofs.Link.{lines_link}

-- ---- its own energies

-- those of rows, region by region
abbrev totals_of : List EnergyRow → Totals
totals_of rows =
    let e = own_energy rows in
    record {
      ace = (e 0).ace ∷ (e 1).ace ∷ (e 2).ace ∷ (e 3).ace ∷ (e 4).ace ∷ [];
      asoe = (e 0).asoe ∷ (e 1).asoe ∷ (e 2).asoe ∷ (e 3).asoe ∷ (e 4).asoe ∷ [];
      residual = (e 0).residual ∷ (e 1).residual ∷ (e 2).residual ∷ (e 3).residual ∷ (e 4).residual ∷ [];
    }

totals_are : (rows : List EnergyRow) (g : ℕ) → g < 5 → entry_of (totals_of rows) g ≡ own_energy rows g
unfolding own_energy
totals_are rows g l = five (λ g. entry_of (totals_of rows) g ≡ own_energy rows g) refl refl refl refl refl g l

module _ (B L : Book) (account : ℕ) where
  -- what there is to be found, whether it was looked for or not
  abbrev pub own_there : OwnEnergies
  own_there = record { current = totals_of (rows_of_account B account).energies; locked = totals_of (rows_of_account L account).energies }

  pub own_there_lem : OwnIs B L account own_there
  own_there_lem = record { current = totals_are (rows_of_account B account).energies; locked = totals_are (rows_of_account L account).energies }

  module _ {here : Totals} (f : OwnIn B account here) where
    -- as found in both
    pub own_found : {there : Totals} {found : Bool} → HeldIs L.energy L.header.energies account there found → OwnIs B L account (record { current = here; locked = there })
    own_found g = record { current = f; locked = held_own L g }

    -- as found in the one, which is the other too
    pub own_alone : L ≡ B → OwnIs B L account (record { current = here; locked = here })
    own_alone e = record { current = f; locked = λ g l. f g l ∙ ap (λ (X : Book). own_energy (rows_of_account X account).energies g) (sym e) }

-- ---- its lines

-- what is known of an account, whether a row names it or not, once its own energies are read
pub record Owned (B L : Book) (account : ℕ) (own : OwnEnergies) : Type 0 where
  pub lines : lines_for B L account ≡ book_lines B L account own
  pub few : length (book_lines B L account own) ≤ most_lines
  pub walk : Walkable B L own

-- its energies are at most each region's
within_of : (B : Book) (account : ℕ) → Sound B → (own : Totals) → ((g : ℕ) → g < 5 → entry_of own g ≡ own_energy (rows_of_account B account).energies g) → Within B own
within_of B account s own f g h = subst (AtMostEntry (B.entry g)) (sym (f g h)) (own_within s account g h)

pub own_of : (B L : Book) (account : ℕ) → Promise B L → {own : OwnEnergies} → OwnIs B L account own → Owned B L account own
own_of B L account p {own} f =
    record {
      lines = lines_link B L account own f.current f.locked;
      few = few_of B account p.sound L own;
      walk = walkable_of B L p own (within_of B account p.sound own.current f.current) (within_of L account p.locked own.locked f.locked);
    }

-- no line of an accepted book passes the limit
pub lines_within : (B L : Book) (account : ℕ) → Promise B L → Each WithinLimit (lines_for B L account)
lines_within B L account p =
    let o = own_of B L account p (own_there_lem B L account) in
    rw o.lines (book_within B L (own_there B L account) p.sound o.walk account)
