-- The energies of the book that was picked of two, where b, h and l, k are the books' bytes and headers: r is the section that was handed back, and p where
-- the rows lie there. They are there, and a sound book's are sound. Assumes nothing.
use Prim.Native.Nat.{ℕ}
use mathlib.Core.Path.{◌≡◌, refl, sym, ap, ◌∙◌}
use mathlib.Core.List.{List}
use Rattle.locking.specs.Locking.{pick}
use Rattle.locking.specs.Inner.Handed.{Handed}
use Rattle.locking.specs.declared.Source.{Source}
use Rattle.locking.specs.declared.Source.TheVariants.{Current, Locked}
use Rattle.totals.specs.Inner.Energies.{energies_in, PartLaid, EnergiesSound}
use Rattle.totals.specs.declared.entries.EnergyPart.{EnergyPart}
use Rattle.book.specs.Book.{book_in}
use Rattle.book.specs.Inner.Facts.{Laid}
use Rattle.book.specs.Inner.Accepted.{Sound}
use Rattle.book.specs.declared.header.Header.{Header}
use Rattle.accounts.specs.Inner.Energies.{energies_of, PartOf}
use Rattle.accounts.proofs.Parts.{part_energies, part_laid, part_sound}

module _ (b : List ℕ) (h : Header) (l : List ℕ) (k : Header) {s : Source} {r : List ℕ} {p : EnergyPart} (a : Handed s b l r) (q : PartOf (pick s h k) p) where
  picked_book : pick s (book_in b h) (book_in l k) ≡ book_in (pick s b l) (pick s h k)
  picked_book = by s
    where
      by : (s : Source) → pick s (book_in b h) (book_in l k) ≡ book_in (pick s b l) (pick s h k)
      by Current = refl
      by Locked = refl

  picked_laid : Laid b h → Laid l k → Laid (pick s b l) (pick s h k)
  picked_laid d f = by s
    where
      by : (s : Source) → Laid (pick s b l) (pick s h k)
      by Current = d
      by Locked = f

  picked_sound : Sound (book_in b h) → Sound (book_in l k) → Sound (book_in (pick s b l) (pick s h k))
  picked_sound d f = by s
    where
      by : (s : Source) → Sound (book_in (pick s b l) (pick s h k))
      by Current = d
      by Locked = f

  -- the energies there are those of the book that was picked
  pub handed_energies : energies_in r p ≡ energies_of (pick s (book_in b h) (book_in l k))
  handed_energies =
      ap (λ (x : List ℕ). energies_in x p) a.bytes
      ∙ part_energies (pick s b l) (pick s h k) p q
      ∙ ap energies_of (sym picked_book)

  pub handed_laid : Laid b h → Laid l k → PartLaid r p
  handed_laid d f = rw a.bytes (part_laid (pick s b l) (pick s h k) p q (picked_laid d f))

  pub handed_sound : Sound (book_in b h) → Sound (book_in l k) → EnergiesSound (energies_in r p)
  handed_sound d f = rw a.bytes (part_sound (pick s b l) (pick s h k) p q (picked_sound d f))
