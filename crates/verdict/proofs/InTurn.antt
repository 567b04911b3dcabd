-- Checks 1 to 9, then 17 and 18, then 10: what each leaves for the next, and what they come to. Assumes nothing.
use Prim.Native.Nat.{ℕ, ◌+◌, ◌*◌, ◌≤◌}
use mathlib.Core.List.{List, [], ◌∷◌}
use mathlib.Core.Path.{◌≡◌, refl, sym, ◌∙◌}
use mathlib.Core.Bool.{Bool, true, false, not, ◌||◌}
use borrow.Author.Tests.{not-true, not-false}
use native.Mathlib.Omega.{arith}
use lib.Dec.{eqb}
use lib.ListN.{length}
use Rattle.ground.specs.Bytes.{part_from}
use Rattle.ground.specs.Every.{all_of}
use Rattle.sections.specs.First.{first_bad}
use Rattle.sections.specs.Refusal.{at_record, first_of, Verdict, unrefused, refused}
use Rattle.std.specs.Prelude.{Option, None, Some, Err}
use Rattle.sections.specs.declared.Refusal.{Refusal}
use Rattle.sections.proofs.Verdicts.{verdict_stop, verdict_go, verdict_last, first_held, first_joined}
use Rattle.records.specs.Rows.{contract_row}
use Rattle.locking.specs.Locking.{is_test}
use Rattle.locking.proofs.Tests.{rule_holds, rule_fails, rule_free}
use Rattle.book.specs.declared.header.Header.{Header}
use Rattle.book.specs.Header.{header_of, contracts_from}
use Rattle.book.specs.Book.{book_in, book_of}
use Rattle.book.specs.Table.{check17, check18, check10, soundness, period_tests, locks, locked_checks, locked_for, verdict}
use Rattle.book.specs.Inner.Facts.{Laid}
use Rattle.book.specs.Inner.Accepted.{SoundBook, SettlesTests}
use Rattle.book.proofs.Promise.{sound, locked_sound}

-- ---- a sound book

-- v is what checks 1 to 9 answered
module _ (b : List ℕ) {v : Verdict} (q : v ≡ soundness b) (e : v ≡ unrefused) where
  given : SoundBook b
  given = sound b (sym q ∙ e)

  pub header_room : 84 ≤ length b
  header_room = omega (arith, given.long)

  pub laid_in : {h : Header} → h ≡ header_of b → Laid b h
  laid_in i = rw i (record { few = given.sound.few; long = given.long })

-- ---- whether a locked book fits; v is what checks 1 to 9 of it answered

module _ (l : List ℕ) (h : Header) {v : Verdict} (q : v ≡ soundness l) where
  pub unsound_locks : {x : Refusal} → v ≡ Err x → false ≡ locks h l
  unfolding locks
  unsound_locks e = rw (← q, e)

  pub sound_locks : {k : Header} → v ≡ unrefused → k ≡ header_of l → all_of (period_tests k h) ≡ locks h l
  unfolding locks
  sound_locks e i = rw (← q, e, i)

-- ---- 17 and 18; found is the first test payment

module _ (b : List ℕ) (h : Header) (l : List ℕ) {contracts : List ℕ} {from : ℕ} {found : Option ℕ} (d : contracts ≡ part_from (contracts_from h) b) (i : from ≡ contracts_from h) (q : found ≡ first_bad (λ k. not (is_test (contract_row contracts k))) h.contracts) where
  abbrev ordinary : ℕ → Bool
  ordinary k = not (is_test (contract_row (part_from (contracts_from h) b) k))

  abbrev ruled : ℕ → Bool → Verdict
  ruled number holds = at_record number (contracts_from h) 36 (first_bad (λ k. ordinary k || holds) h.contracts)

  -- a rule that holds refuses nothing
  holding : (number : ℕ) {holds : Bool} → holds ≡ true → unrefused ≡ ruled number holds
  unfolding at_record
  holding number e = rw (rule_holds ordinary h.contracts e)

  -- one that fails is refused at the first test payment
  failing : (number : ℕ) {holds : Bool} → holds ≡ false → at_record number from 36 found ≡ ruled number holds
  failing number e = rw (q, i, d, rule_fails ordinary h.contracts e)

  -- where there is none nothing is asked
  asking_none : (number : ℕ) (holds : Bool) → found ≡ None → unrefused ≡ ruled number holds
  unfolding at_record
  asking_none number holds g = rw (rule_free ordinary h.contracts holds (rw d at (sym q ∙ g)))

  pub no_tests : found ≡ None → unrefused ≡ first_of (locked_checks (book_in b h) l)
  unfolding check17 check18
  no_tests g = verdict_go _ refl (asking_none 17 _ g) (verdict_last (asking_none 18 _ g))

  module _ {k : ℕ} (f : found ≡ Some k) where
    refusal : (number : ℕ) → at_record number from 36 found ≡ refused number (from + k * 36)
    unfolding at_record
    refusal number = rw f

    pub stop17 : {v : Verdict} → eqb (length l) 0 ≡ true → v ≡ at_record 17 from 36 found → v ≡ first_of (locked_checks (book_in b h) l)
    unfolding check17
    stop17 z e = verdict_stop _ (refusal 17) (e ∙ refusal 17) (failing 17 (rw z))

    module _ (full : eqb (length l) 0 ≡ false) {t : Bool} (m : t ≡ locks h l) where
      pass17 : unrefused ≡ check17 (book_in b h) l
      unfolding check17
      pass17 = holding 17 (rw full)

      pub stop18 : {v : Verdict} → not t ≡ true → v ≡ at_record 18 from 36 found → v ≡ first_of (locked_checks (book_in b h) l)
      unfolding check18
      stop18 n e = verdict_go _ refl pass17 (verdict_stop _ (refusal 18) (e ∙ refusal 18) (failing 18 (sym m ∙ not-true t n)))

      pub both_pass : not t ≡ false → unrefused ≡ first_of (locked_checks (book_in b h) l)
      unfolding check18
      both_pass n = verdict_go _ refl pass17 (verdict_last (holding 18 (sym m ∙ not-false t n)))

-- ---- all of them; v is what 1 to 9 answered, and w what 17 and 18 did

module _ (b l : List ℕ) {v : Verdict} (q : v ≡ soundness b) where
  pub unsound : {r : Verdict} {x : Refusal} → v ≡ Err x → r ≡ Err x → r ≡ verdict b l
  unfolding verdict
  unsound e f = verdict_stop _ e f q

  module _ (e : v ≡ unrefused) {h : Header} (i : h ≡ header_of b) {w : Verdict} (r : w ≡ first_of (locked_checks (book_in b h) l)) where
    -- the verdict is that of what is left behind 1 to 9
    behind : {x : Verdict} → x ≡ first_of (first_of (locked_checks (book_of b) l) ∷ check10 (book_of b) (book_of (locked_for b l)) ∷ []) → x ≡ verdict b l
    unfolding verdict
    behind p = verdict_go _ e q (p ∙ first_joined (locked_checks (book_of b) l) (check10 (book_of b) (book_of (locked_for b l)) ∷ []))

    pub not_lent : {z : Verdict} {x : Refusal} → w ≡ Err x → z ≡ Err x → z ≡ verdict b l
    not_lent f g = behind (verdict_stop _ f g (rw i at r))

    module _ (f : w ≡ unrefused) {s : List ℕ} (t : SettlesTests b h l s) where
      is_locked : s ≡ locked_for b l
      unfolding locked_for
      is_locked = rw i at t.bytes

      pub locked_room : 84 ≤ length s
      locked_room =
          let c = first_held _ _ (sym (rw i at r) ∙ f) in
          let k = locked_sound b l (sym q ∙ e) (first_held _ _ c.rest).here in
          rw is_locked (omega (arith, k.long))

      pub tenth : {x : Verdict} → x ≡ check10 (book_in b h) (book_of s) → x ≡ verdict b l
      tenth k = behind (verdict_go _ f (rw i at r) (verdict_last (rw (i, is_locked) at k)))
