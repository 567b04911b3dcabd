-- The energies of a book, as they lie in the bytes from its region entries on: they are there, and a sound book's are sound. Assumes nothing.
use Prim.Native.Nat.{ℕ, ◌+◌, ◌-◌}
use mathlib.Core.Path.{◌≡◌, refl, sym, ap, subst, ◌∙◌}
use mathlib.Core.List.{List}
use native.Mathlib.Omega.{arith}
use lib.ListN.{length, drop, length-drop}
use lib.Seq.{drop-drop}
use Rattle.ground.specs.Bytes.{part_from}
use Rattle.ground.proofs.Part.{part_drop}
use Rattle.records.specs.Rows.{energy_row}
use Rattle.totals.specs.Inner.Energies.{Energies, energies_in, PartLaid, EnergiesSound}
use Rattle.totals.specs.declared.entries.EnergyPart.{EnergyPart}
use Rattle.book.specs.Book.{Book, book_in}
use Rattle.book.specs.Header.{energies_from}
use Rattle.book.specs.Inner.Facts.{Laid}
use Rattle.book.specs.Inner.Accepted.{Sound}
use Rattle.book.specs.declared.header.Header.{Header}
use Rattle.accounts.specs.Inner.Energies.{energies_of, PartOf}
use Rattle.accounts.specs.Inner.Held.{HeldIs}
use Rattle.totals.specs.declared.entries.Totals.{Totals}
use mathlib.Core.Bool.{Bool}

-- a book's that checks 1 to 9 let pass
pub sound_of : {B : Book} → Sound B → EnergiesSound (energies_of B)
sound_of s =
    record {
      few = s.few.energies;
      entries = s.fields.entries;
      rules = s.fields.energies;
      order = s.ordered.energies;
      sums = s.entry;
    }

-- where the header says that the rows start
pub part_at : (h : Header) {from : ℕ} → from ≡ energies_from h → PartOf h (record { from = from - 24; rows = h.energies })
part_at h e = record { from = omega (arith, e); rows = refl }

module _ (b : List ℕ) (h : Header) (p : EnergyPart) (q : PartOf h p) where
  -- the rows stand where the header says
  rows_at : part_from p.from (part_from 24 b) ≡ part_from (energies_from h) b
  rows_at =
      part_drop p.from (part_from 24 b)
      ∙ ap (drop p.from) (part_drop 24 b)
      ∙ drop-drop p.from 24 b
      ∙ ap (λ (k : ℕ). drop k b) from
      ∙ sym (part_drop (energies_from h) b)
    where
      from : 24 + p.from ≡ energies_from h
      from = omega (arith, q.from)

  pub part_energies : energies_in (part_from 24 b) p ≡ energies_of (book_in b h)
  part_energies = λ j. record { entry = (book_in b h).entry; row = energy_row (rows_at j); rows = q.rows j }

  pub part_laid : Laid b h → PartLaid (part_from 24 b) p
  part_laid d =
      let long : length (part_from 24 b) ≡ length (drop 24 b) = ap length (part_drop 24 b) in
      record {
        entries = omega (arith, d.long, length-drop 24 b);
        rows = omega (arith, d.long, length-drop 24 b, q.from, q.rows);
      }

  pub part_sound : Sound (book_in b h) → EnergiesSound (energies_in (part_from 24 b) p)
  part_sound s = subst EnergiesSound (sym part_energies) (sound_of s)

  -- what an account holds of them, it holds of the book
  pub part_held : (account : ℕ) {own : Totals} {any : Bool} → HeldIs (energies_in (part_from 24 b) p).row p.rows account own any → HeldIs (book_in b h).energy h.energies account own any
  part_held account {own} {any} f = subst (λ (E : Energies). HeldIs E.row E.rows account own any) part_energies f
