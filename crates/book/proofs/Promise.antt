-- A sound book and an accepted one keep their promises: each check that refuses nothing says what it says of every record. Assumes nothing.
use Rattle.std.specs.Prelude.{Ok, Err}
use Prim.Native.Nat.{ℕ, ◌≤◌, ◌<◌}
use mathlib.Core.List.{List, ◌∷◌}
use mathlib.Core.Path.{◌≡◌, refl}
use mathlib.Core.Bool.{Bool, true, false, ◌&&◌, cond}
use borrow.Author.Tests.{eqb-true}
use lib.Dec.{eqb}
use native.Mathlib.Omega.{arith}
use Rattle.ground.proofs.Every.{every}
use Rattle.sections.specs.Total.{total_of, keyed}
use Rattle.sections.specs.Refusal.{Verdict, unrefused}
use Rattle.sections.proofs.Cases.{zero_one}
use Rattle.sections.proofs.Verdicts.{first_held, record_held, unless_held}
use Rattle.sections.proofs.Total.{total_under}
use Rattle.records.specs.declared.rows.EnergyRow.{EnergyRow}
use Rattle.factors.proofs.Said.{owner_of, whole_of, plain_of}
use Rattle.totals.specs.Sums.{row_by, region_of}
use Rattle.totals.proofs.Said.{entry_of, divisor_of, funded_of}
use Rattle.totals.proofs.Turns.{entry_with_lem}
use Rattle.book.specs.Header.{header_of, range_tests, in_range}
use Rattle.book.specs.Book.{Book, book_of}
use Rattle.locking.specs.Locking.{reads_locked}
use Rattle.locking.proofs.Tests.{read_holds}
use Rattle.book.specs.declared.header.Header.{Header}
use Rattle.book.specs.Table.{check3, check4, check7, check8, check9, check18, check10, soundness, passes, period_tests, locks, locked_for, entries_by, verdict}
use Rattle.book.specs.Inner.Accepted.{own_total, EntrySumsAt, OwnAtMost, Sound, SoundBook, Promise, AcceptedBook}
use Rattle.book.proofs.Passed.{NoneRefused, sound_passed, all_passed}
use Rattle.book.proofs.Steps.{few_of, fields_of, ordered_of, named_of}

-- ---- an account's own energy

-- what counts for an account in a region counts for the region
own_part : (a b : Bool) (x : ℕ) → cond (a && b) x 0 ≤ cond b x 0
own_part true b x = by b
  where
    by : (b : Bool) → cond b x 0 ≤ cond b x 0
    by true = omega arith
    by false = omega arith
own_part false b x = omega arith

own_within : (B : Book) (account g : ℕ) (f : EnergyRow → ℕ) → own_total B account g f ≤ total_of (region_of B.energy) g (λ i. f (B.energy i)) B.header.energies
unfolding own_total keyed
own_within B account g f =
    total_under _ _ B.header.energies (λ i l. own_part (eqb (B.energy i).account account) (eqb (B.energy i).region g) (f (B.energy i)))

own_of : (B : Book) → ((g : ℕ) → g < 5 → EntrySumsAt B g) → (account g : ℕ) → g < 5 → OwnAtMost B account g
own_of B s account g l = record { each = λ b. rw ((s g l).each b, entry_with_lem (λ b. own_total B account g (row_by b)) b) (own_within B account g (row_by b)) }

-- ---- 1 to 9

sound_records : (B : Book) → in_range B.header ≡ true → NoneRefused B → Sound B
unfolding check7 check8 check9
sound_records B i c =
    let sums = entry_of B.energy B.header.energies B.entry (record_held _ _ _ _ c.sums) in
    record {
      few = few_of B.header i;
      period = (every (range_tests B.header) i).0;
      fields = fields_of B c.fields refl;
      ordered = ordered_of B c.order refl;
      owner = owner_of B.constraint B.header.constraints B.unit B.header.units (record_held _ _ _ _ c.names);
      named = named_of B c.names refl;
      factored = whole_of B.unit B.header.units B.constraint B.header.constraints (record_held _ _ _ _ c.factors);
      default = plain_of B.unit B.header.units B.constraint B.header.constraints (record_held _ _ _ _ c.factors);
      entry = sums;
      own = own_of B sums;
    }

pub sound : (b : List ℕ) → soundness b ≡ unrefused → SoundBook b
unfolding check3 check4
sound b e =
    let c = sound_passed b e in
    record {
      long = eqb-true _ _ (unless_held 4 _ c.length);
      sound = sound_records (book_of b) (unless_held 3 _ c.range) c.records;
    }

-- ---- the locked book

-- it passes 1 to 9 where it fits
passes_sound : (v : Verdict) → passes v ≡ true → v ≡ unrefused
passes_sound (Ok _) e = refl
passes_sound (Err v) e = absurd (zero_one cc)

pub locks_sound : (h : Header) (l : List ℕ) → locks h l ≡ true → soundness l ≡ unrefused
unfolding locks
locks_sound h l e = passes_sound (soundness l) (every (passes (soundness l) ∷ period_tests (header_of l) h) e).0

-- so does the book that test payments are settled by: the locked one, where one is read, or the book itself
pub locked_passes : (b l : List ℕ) → soundness b ≡ unrefused → check18 (book_of b) l ≡ unrefused → soundness (locked_for b l) ≡ unrefused
unfolding check18 locked_for
locked_passes b l s e = by (reads_locked (book_of b).contract (header_of b).contracts) refl
  where
    by : (t : Bool) → reads_locked (book_of b).contract (header_of b).contracts ≡ t → soundness (cond t l b) ≡ unrefused
    by true r = locks_sound (header_of b) l (read_holds (book_of b).contract (header_of b).contracts (locks (header_of b) l) r (record_held _ _ _ _ e))
    by false r = s

pub locked_sound : (b l : List ℕ) → soundness b ≡ unrefused → check18 (book_of b) l ≡ unrefused → SoundBook (locked_for b l)
locked_sound b l s e = sound (locked_for b l) (locked_passes b l s e)

-- ---- and 10

promised : (B L : Book) → Sound B → Sound L → check10 B L ≡ unrefused → Promise B L
unfolding check10
promised B L s t e =
    let shared = first_held _ _ e in
    let paid = first_held _ _ shared.rest in
    record {
      sound = s;
      locked = t;
      divisor = divisor_of B.entry B.constraint B.header.constraints (record_held _ _ _ _ shared.here);
      funded = funded_of (λ k. entries_by B L (B.contract k)) B.contract B.header.contracts (record_held _ _ _ _ paid.here);
    }

pub accepted : (b l : List ℕ) → verdict b l ≡ unrefused → AcceptedBook b l
accepted b l e =
    let c = all_passed b l e in
    let s = sound b c.sound in
    let t = locked_sound b l c.sound c.fits in
    record { long = s.long; locked = t.long; promise = promised (book_of b) (book_of (locked_for b l)) s.sound t.sound c.divisors }
