-- Each way in which the two calls end, over the rows of a book and of the one that test payments are settled by. Assumes nothing.
use Prim.Native.Nat.{ℕ, ◌+◌, ◌*◌, ◌≤◌, ◌<◌}
use mathlib.Core.Path.{◌≡◌, refl, sym, ap, subst, ◌∙◌}
use mathlib.Core.Bool.{Bool, true, false, not, ◌&&◌, ◌||◌}
use mathlib.Core.List.{List}
use lib.Dec.{eqb}
use lib.ListN.{length}
use native.Mathlib.Omega.{arith}
use Rattle.ground.specs.Inner.Put.{Wrote}
use Rattle.sections.proofs.Cases.{zero_one}
use Rattle.sections.specs.Refusal.{Verdict, unrefused, refused}
use Rattle.book.specs.Header.{header_of}
use Rattle.book.specs.declared.header.Header.{Header}
use Rattle.book.specs.Book.{Book, book_of}
use Rattle.book.specs.Laid.{book_at}
use Rattle.book.specs.Table.{verdict}
use Rattle.book.specs.Inner.Accepted.{Promise}
use Rattle.verdict.specs.declared.BothBooks.{BothBooks}
use Rattle.verdict.specs.Accepted.{BothOf}
use Rattle.accounts.specs.Rows.{rows_of, keep, none}
use Rattle.accounts.specs.Account.{public_of, rows_of_account, locked_of, unknown, unnamed}
use Rattle.accounts.specs.declared.energies.OwnEnergies.{OwnEnergies}
use Rattle.statement.specs.Lent.{Outcome, refuses, gives, length_for, Lent}
use Rattle.std.specs.Prelude.{Result, Ok, Err}
use Rattle.sections.specs.declared.Refusal.{Refusal}
use Rattle.statement.proofs.Lent.{lent_refused, lent_short, lent_written, length_refused, length_given, refused_length, Long, long_given}
use Rattle.statement.proofs.Lines.{statement_length}
use Rattle.lines.specs.Limit.{any_over}
use Rattle.lines.specs.Inner.Walks.{book_lines, Walkable}
use Rattle.limit.specs.Inner.Limits.{book_over}
use Rattle.limit.proofs.UnderLimit.{over_is}
use Rattle.whole.specs.Inner.Whole.{Fits, heading_in, whole_of}
use Rattle.settlement.specs.Settle.{statement_of, settled_in, lines_for, outcome_if, outcome}
use Rattle.settlement.specs.Inner.Own.{OwnIs}
use Rattle.settlement.proofs.Settled.{settled_unknown, settled_over, settled_gives, statement_long, Settled, settled_back}
use Rattle.settlement.proofs.Owned.{Owned, own_of}

-- ---- 11: x says whether a row of the book names the account, y whether one of the locked book does

module _ (B L : Book) (account : ℕ) {x : Bool} (e : x ≡ not (unknown (rows_of_account B account))) where
  pub named_first : x ≡ true → true ≡ not (unnamed (rows_of_account B account) (locked_of L account))
  named_first t = by (unknown (rows_of_account B account)) _ (sym e ∙ t)
    where
      by : (a b : Bool) → not a ≡ true → true ≡ not (a && b)
      by true b h = absurd (zero_one cc)
      by false b h = refl

  pub named_second : {y : Bool} → x ≡ false → y ≡ not (unknown (rows_of_account L account)) → y ≡ not (unnamed (rows_of_account B account) (locked_of L account))
  unfolding locked_of
  named_second {y} t f = f ∙ by (unknown (rows_of_account B account)) _ (sym e ∙ t)
    where
      by : (a b : Bool) → not a ≡ false → not b ≡ not (a && b)
      by true b h = refl
      by false b h = absurd (zero_one cc)

-- of one book; u says whether a unit row does where no energy row does
pub names_told : (B : Book) (account : ℕ) {held u : Bool} → held ≡ not (none (keep (λ r. eqb r.account account) (rows_of B.energy B.header.energies))) → u ≡ (held || not (none (keep (λ r. eqb r.account account) (rows_of B.unit B.header.units)))) → u ≡ not (unknown (rows_of_account B account))
unfolding rows_of_account
names_told B account f k = k ∙ rw f (by (none (rows_of_account B account).energies) (none (rows_of_account B account).units))
  where
    by : (a b : Bool) → (not a || not b) ≡ not (b && a)
    by true true = refl
    by true false = refl
    by false true = refl
    by false false = refl

not_not : (a : Bool) → not (not a) ≡ a
not_not true = refl
not_not false = refl

module _ (B L : Book) (account : ℕ) (p : Promise B L) {own : OwnEnergies} (f : OwnIs B L account own) where
  owned : Owned B L account own
  owned = own_of B L account p f

  -- ---- the length: 11, 12, and the lines counted

  module _ {known : Bool} (k : known ≡ not (unnamed (rows_of_account B account) (locked_of L account))) where
    unnamed_is : unnamed (rows_of_account B account) (locked_of L account) ≡ not known
    unnamed_is = sym (not_not _) ∙ ap not (sym k)

    pub size_11 : known ≡ false → refused 11 0 ≡ length_for (settled_in B L account)
    size_11 t = length_refused 11 0 _ (settled_unknown account (public_of B) (rows_of_account B account) (locked_of L account) (unnamed_is ∙ ap not t))

    module _ (t : known ≡ true) {over : Bool} (e : over ≡ book_over B) where
      over_told : any_over (lines_for B L account) ≡ not (not over)
      over_told = sym (not_not over ∙ e ∙ over_is B p.sound L own owned.walk account ∙ ap any_over (sym owned.lines))

      pub size_12 : not over ≡ false → refused 12 0 ≡ length_for (settled_in B L account)
      size_12 o = length_refused 12 0 _ (settled_over account (public_of B) (rows_of_account B account) (locked_of L account) (unnamed_is ∙ ap not t) (over_told ∙ ap not o))

      pub size_counted : not over ≡ true → {n : ℕ} → ((L : Book) (own : OwnEnergies) → n ≡ 24 + length (book_lines B L account own) * 24) → Ok n ≡ length_for (settled_in B L account)
      size_counted o {n} c =
          let long = statement_long account (public_of B) (rows_of_account B account) (locked_of L account) in
          length_given _ _ (settled_gives account (public_of B) (rows_of_account B account) (locked_of L account) (unnamed_is ∙ ap not t) (over_told ∙ ap not o)) n
          (omega (arith, c L own, long, ap length owned.lines))

  -- ---- the writing, once the length is told

  module _ (l : List ℕ) {w : Result ℕ Refusal} (q : w ≡ length_for (settled_in B L account)) where
    pub end_refused : {r : Result ℕ Refusal} {x : Refusal} → w ≡ Err x → r ≡ Err x → Lent (settled_in B L account) l r l
    end_refused {x = x} e f = rw f (lent_refused x.number x.place _ l (refused_length _ x.number x.place (sym e ∙ q)))

    module _ {n : ℕ} (e : w ≡ Ok n) where
      told : Long (settled_in B L account) n
      told = long_given _ n (sym e ∙ q)

      passed : Settled account (public_of B) (rows_of_account B account) (locked_of L account) told.bytes
      passed = settled_back account (public_of B) (rows_of_account B account) (locked_of L account) told.bytes told.given

      -- the bytes are those that the walk writes
      bytes_are : told.bytes ≡ whole_of account B L own
      unfolding statement_of whole_of public_of
      bytes_are = passed.bytes ∙ rw owned.lines

      long_is : n ≡ 24 + 24 * length (book_lines B L account own)
      unfolding whole_of
      long_is = told.long ∙ ap length bytes_are ∙ statement_length (heading_in account B (length (book_lines B L account own))) (book_lines B L account own)

      pub end_13 : length l < n → Lent (settled_in B L account) l (refused 13 0) l
      end_13 h = lent_short _ told.bytes told.given l (omega (arith, told.long))

      pub walk_of : Walkable B L own
      walk_of = owned.walk

      pub fits_in : n ≤ length l → Fits (book_lines B L account own) (length l)
      fits_in h = record { few = owned.few; room = omega (arith, long_is) }

      pub end_written : n ≤ length l → {b : List ℕ} {m : ℕ} → Wrote l 0 (whole_of account B L own) b m → Lent (settled_in B L account) l (Ok m) b
      end_written h w =
          lent_written _ (whole_of account B L own) (told.given ∙ ap gives bytes_are) l _ (omega (arith, w.next))
          (omega (arith, told.long, ap length bytes_are)) w.bytes

-- ---- the book's verdict

pub outcome_refused : (b l : List ℕ) (account : ℕ) {x : Refusal} → verdict b l ≡ Err x → outcome b l account ≡ refuses x.number x.place
unfolding outcome outcome_if
outcome_refused b l account e = rw e

-- x has the two books that were accepted
module _ (b l : List ℕ) (account : ℕ) {x : BothBooks} (t : BothOf b l x) where
  outcome_settled : settled_in (book_at x.book) (book_at x.second) account ≡ outcome b l account
  unfolding outcome outcome_if
  outcome_settled = rw (t.unrefused, t.header, t.book, t.second_header, t.second)

  pub size_settled : {r : Result ℕ Refusal} → r ≡ length_for (settled_in (book_at x.book) (book_at x.second) account) → r ≡ length_for (outcome b l account)
  size_settled w = w ∙ ap length_for outcome_settled

  pub end_settled : {y : List ℕ} {r : Result ℕ Refusal} {d : List ℕ} → Lent (settled_in (book_at x.book) (book_at x.second) account) y r d → Lent (outcome b l account) y r d
  end_settled {y} {r} {d} w = subst (λ (o : Outcome). Lent o y r d) outcome_settled w
