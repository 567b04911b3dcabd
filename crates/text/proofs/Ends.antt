-- Each way in which the text ends: the length is refused, or just so many bytes are lent, and a statement is given. Assumes nothing.
use Prim.Native.Nat.{ℕ, ◌+◌, ◌*◌, ◌^◌, ◌≤◌, ◌<◌}
use mathlib.Core.Path.{◌≡◌, sym, ap, ◌∙◌}
use mathlib.Core.Bool.{true}
use mathlib.Core.List.{List, [], ◌∷◌, ◌++◌}
use native.Mathlib.Omega.{arith}
use borrow.Author.Tests.{leb-true, le-leb, lt-ltb, le-ltb}
use lib.Dec.{eqb, leb}
use lib.ListN.{length, take, drop, length-append}
use lib.Seq.{length-take-le, take-append-le}
use Rattle.std.specs.Prelude.{Result, Ok, Err}
use Rattle.ground.specs.Bytes.{u32_at, part_from, part, AreBytes}
use Rattle.ground.specs.Inner.Put.{Wrote}
use Rattle.ground.proofs.Every.{every}
use Rattle.ground.proofs.Put.{put_length, wrote_more, wrote_length}
use Rattle.sections.specs.declared.Refusal.{Refusal}
use Rattle.calendar.specs.Calendar.{is_period}
use Rattle.statement.specs.Lent.{Outcome, gives, length_for, answer_for, left_in, Lent}
use Rattle.statement.specs.declared.Heading.{Heading}
use Rattle.statement.proofs.Lent.{lent_front, refused_length, Long, long_given}
use Rattle.parsing.specs.Parsing.{heading_at, heading_ok, lines_in, statement_marked, headed, is_statement}
use Rattle.parsing.proofs.Whole.{headed_length, statement_long, statement_headed}
use Rattle.settlement.specs.Settle.{outcome}
use Rattle.trips.proofs.Trip.{written_and_read}
use Rattle.printing.specs.Printing.{heading_text, lines_text, refusal_text, statement_text}
use Rattle.text.specs.Listing.{outcome_text, listing_of}
use Rattle.printing.specs.Inner.Said.{Said}
use Rattle.printing.proofs.Lengths.{heading_short, lines_short}

-- ---- a statement

module _ (s : List ℕ) (q : is_statement s ≡ true) where
  few_lines : (heading_at s).lines ≤ 2152
  unfolding headed
  few_lines =
      let h = heading_at s in
      let ok = (every (statement_marked s ∷ heading_ok h ∷ eqb (length s) (24 + h.lines * 24) ∷ []) (statement_headed s q)).1.0 in
      leb-true h.lines 2152 (every (is_period h.interval h.date h.run ∷ leb h.lines 2152 ∷ leb 1 h.account ∷ []) ok).1.0

  -- 24 bytes, and 24 for each of at most 2,152 lines
  pub statement_short : length s ≤ 51_672
  statement_short = omega (arith, headed_length s (statement_headed s q), few_lines)

  pub header_lies : 24 ≤ length s
  header_lies = statement_long s q

  module _ (bytes : AreBytes s) (h : Heading) (g : h ≡ heading_at s) (l : List ℕ) (long : 114_128 ≤ length l) where
    pub heading_room : length (heading_text h) ≤ length l
    heading_room = rw g (omega (arith, heading_short s bytes))

    pub lines_lie : 24 + h.lines * 24 ≤ length s
    lines_lie = rw g (omega (arith, headed_length s (statement_headed s q)))

    pub lines_room : {a : List ℕ} {m : ℕ} → Wrote l 0 (heading_text h) a m → m + h.lines * 53 ≤ length a
    lines_room w = rw g (omega (arith, rw g at w.next, few_lines, heading_short s bytes, wrote_length w))

    pub said_statement : {a b : List ℕ} {m e : ℕ} → Wrote l 0 (heading_text h) a m → Wrote a m (lines_text (lines_in s h.lines)) b e → Said l (statement_text (heading_at s) (lines_in s (heading_at s).lines)) b e
    unfolding statement_text
    said_statement w v =
        record {
          wrote = rw g at (wrote_more w v);
          within = omega (arith, rw g at w.next, rw g at v.next, few_lines, heading_short s bytes, lines_short s bytes (heading_at s).lines, wrote_length w, wrote_length v);
        }

-- ---- a statement that is lent just its length: o is what the rules give, of n bytes; d is the array whose first n are lent, and e what they
-- ---- hold then

module _ (o : Outcome) {n : ℕ} (told : Ok n ≡ length_for o) (d : List ℕ) (fits : n ≤ length d) {r : Result ℕ Refusal} {e : List ℕ} (h : Lent o (take n d) r e) where
  due : Long o n
  due = long_given o n told

  has_room : leb (length due.bytes) (length (take n d)) ≡ true
  has_room = le-leb (length due.bytes) (length (take n d)) (omega (arith, due.long, length-take-le n d fits))

  -- it is never refused 13
  just_room : r ≡ Ok n
  unfolding answer_for
  just_room = (rw (due.given, has_room) at h.answer) ∙ ap Ok (sym due.long)

  as_long : length e ≡ n
  unfolding left_in
  as_long = ap length (rw (due.given, has_room) at h.left) ∙ put_length (take n d) 0 due.bytes ∙ length-take-le n d fits

  -- what was given stands at the array's front
  front_given : o ≡ gives (take n (e ++ drop n d))
  unfolding part
  front_given =
      lent_front o (take n d) n e (rw just_room at h)
      ∙ ap gives (sym (take-append-le n e (drop n d) (omega (arith, as_long))))

module _ (b : List ℕ) (account : ℕ) (bytes : AreBytes b) (small : account < 2 ^ 32) {n : ℕ} (told : Ok n ≡ length_for (outcome b [] account)) (d : List ℕ) (room : 51_672 ≡ length d) where
  -- the array holds every statement
  pub fits : n ≤ length d
  fits =
      let due = long_given (outcome b [] account) n told in
      omega (arith, due.long, statement_short due.bytes (written_and_read b [] account due.bytes bytes small due.given).accepted)

  module _ {r : Result ℕ Refusal} {e : List ℕ} (h : Lent (outcome b [] account) (take n d) r e) where
    given : outcome b [] account ≡ gives (take n (e ++ drop n d))
    given = front_given (outcome b [] account) told d fits h

    pub lies : n ≤ length (e ++ drop n d)
    lies = rw length-append (omega (arith, as_long (outcome b [] account) told d fits h))

    pub is_statement_lem : is_statement (take n (e ++ drop n d)) ≡ true
    is_statement_lem = (written_and_read b [] account (take n (e ++ drop n d)) bytes small given).accepted

    pub said_given : {t u : List ℕ} {k : ℕ} → Said t (statement_text (heading_at (take n (e ++ drop n d))) (lines_in (take n (e ++ drop n d)) (heading_at (take n (e ++ drop n d))).lines)) u k → Said t (outcome_text (outcome b [] account)) u k
    unfolding outcome_text
    said_given w = rw given w

-- where the length is refused, the outcome is that refusal
pub said_refused : (o : Outcome) {r : Refusal} {w : Result ℕ Refusal} → w ≡ length_for o → w ≡ Err r → {t u : List ℕ} {e : ℕ} → Said t (refusal_text r.number r.place) u e → Said t (outcome_text o) u e
unfolding outcome_text
said_refused o {r} a q s = rw (refused_length o r.number r.place (sym q ∙ a)) s

-- ---- the input

module _ (input : List ℕ) {t u : List ℕ} {e : ℕ} where
  pub said_short : length input < 4 → Said t (outcome_text (outcome [] [] 0)) u e → Said t (listing_of input) u e
  unfolding listing_of
  said_short h w = rw (lt-ltb (length input) 4 h) w

  pub said_long : 4 ≤ length input → (account : ℕ) → account ≡ u32_at input 0 → Said t (outcome_text (outcome (part_from 4 input) [] account)) u e → Said t (listing_of input) u e
  unfolding listing_of
  said_long h account q w = rw (le-ltb (length input) 4 h) (rw q at w)
