-- Each way in which the call ends: b is the book, l what was lent as the locked one. Assumes nothing.
use Prim.Native.Nat.{ℕ, ◌+◌, ◌^◌, ◌≤◌, ◌<◌}
use mathlib.Core.Path.{◌≡◌, refl, sym, ap, subst, ◌∙◌}
use mathlib.Core.Bool.{false}
use mathlib.Core.List.{List}
use native.Mathlib.Omega.{arith}
use borrow.Author.Tests.{le-leb, lt-leb}
use lib.ListN.{length}
use Rattle.ground.specs.Bytes.{AreBytes}
use Rattle.ground.specs.Inner.Put.{Wrote}
use Rattle.book.specs.Header.{header_of}
use Rattle.book.specs.declared.header.Header.{Header}
use Rattle.std.specs.Prelude.{Result, Ok, Err}
use Rattle.sections.specs.declared.Refusal.{Refusal}
use Rattle.sections.specs.Refusal.{refused}
use Rattle.book.specs.Book.{Book, book_in}
use Rattle.book.specs.Laid.{book_at}
use Rattle.book.specs.Table.{verdict}
use Rattle.book.specs.Inner.Accepted.{Promise}
use Rattle.verdict.specs.declared.BothBooks.{BothBooks}
use Rattle.verdict.specs.Accepted.{BothOf}
use Rattle.accounts.specs.Rows.{joined}
use Rattle.accounts.specs.Account.{public_of, rows_of_account, locked_of, unnamed}
use Rattle.accounts.specs.declared.energies.OwnEnergies.{OwnEnergies}
use Rattle.statement.specs.Lent.{Outcome, gives, length_for, Lent}
use Rattle.statement.proofs.Lent.{lent_refused, lent_short, lent_written, refused_length, Long, long_given}
use Rattle.settlement.specs.Settle.{settled_in, outcome_if, outcome}
use Rattle.settlement.specs.Inner.Own.{OwnIs}
use Rattle.settlement.proofs.Settled.{settled_back}
use Rattle.settlement.proofs.Ends.{outcome_refused}
use Rattle.trips.proofs.Call.{narrow}
use Rattle.nmas.specs.Rows.{text_of}
use Rattle.nmas.specs.Inner.Puts.{HasRoom, Countable}
use Rattle.nmas.specs.declared.Row.{Row}
use Rattle.nmas_file.specs.File.{head_of, instead, file_in, file_outcome}
use Rattle.nmas_file.specs.Inner.Walks.{FileableIn, rows_at, book_rows}
use Rattle.nmas_file.specs.declared.Head.{Head}
use Rattle.nmas_file.proofs.Link.{rows_link}
use Rattle.nmas_file.proofs.Fine.{fileable_of}
use Rattle.nmas_file.proofs.Length.{contracts_short}

-- ---- an accepted book's text

module _ (head : Head) (B L : Book) (own : OwnEnergies) where
  abbrev paid_rows : List Row
  paid_rows = joined (rows_at head B.entry L.entry own B.contract) B.header.contracts

  -- what is measured before the first byte is written
  pub text_countable : B.header.contracts ≤ 16 → ((i : ℕ) → i < B.header.contracts → FileableIn head B.entry L.entry own (B.contract i)) → (l : List ℕ) → Countable l 0 (text_of paid_rows)
  text_countable few w l = record { fits = omega (arith, few, contracts_short head _ _ own _ B.header.contracts w) }

  module _ {n : ℕ} (l : List ℕ) (q : n ≡ 0 + length (text_of paid_rows)) where
    -- 13
    pub text_short : length l < n → Lent (gives (text_of (book_rows head B L own))) l (refused 13 0) l
    text_short w = lent_short _ _ refl l (omega (arith, q))

    pub text_fits : n ≤ length l → HasRoom l 0 (text_of paid_rows)
    text_fits w = record { fits = omega (arith, q) }

    pub text_written : n ≤ length l → {d : List ℕ} {m : ℕ} → Wrote l 0 (text_of paid_rows) d m → Lent (gives (text_of (book_rows head B L own))) l (Ok m) d
    text_written w v = lent_written _ _ refl l _ (omega (arith, v.next)) (omega (arith, q)) v.bytes

-- ---- an accepted book; L is the one that its test payments are settled by

module _ (b : List ℕ) {h : Header} (i : h ≡ header_of b) (L : Book) (account payment_type : ℕ) (p : Promise (book_in b h) L) (t : payment_type ≤ 2) where
  abbrev B : Book
  B = book_in b h

  module _ {w : Result ℕ Refusal} (q : w ≡ length_for (settled_in B L account)) where
    -- what the statement is refused for
    pub file_refused : {r : Result ℕ Refusal} {z : Refusal} → w ≡ Err z → r ≡ Err z → {x : List ℕ} → Lent (file_in B L account payment_type) x r x
    unfolding instead
    file_refused {z = z} e f {x} = rw f (lent_refused z.number z.place _ x (rw (refused_length (settled_in B L account) z.number z.place (sym e ∙ q))))

    -- where the statement has a length a row names the account
    module _ {n : ℕ} (e : w ≡ Ok n) where
      told : Long (settled_in B L account) n
      told = long_given _ n (sym e ∙ q)

      known_in : unnamed (rows_of_account B account) (locked_of L account) ≡ false
      known_in = (settled_back account (public_of B) (rows_of_account B account) (locked_of L account) told.bytes told.given).known

      module _ {own : OwnEnergies} (f : OwnIs B L account own) {head : Head} (a : head ≡ record { date = h.date; run = h.run; interval = h.interval; account = account; payment_type = payment_type }) where
        head_is : head ≡ head_of account (public_of B) payment_type
        unfolding public_of
        head_is = a

        pub file_asks : AreBytes b → account < 2 ^ 32 → (k : ℕ) → k < h.contracts → FileableIn head B.entry L.entry own (B.contract k)
        file_asks bytes small = rw head_is (fileable_of B L p account payment_type known_in small t (rw i (narrow b bytes)) f)

        given_is : gives (text_of (book_rows head B L own)) ≡ file_in B L account payment_type
        unfolding instead
        given_is = rw (told.given, head_is, ← rows_link B L account payment_type f)

        pub file_written : {x : List ℕ} {r : Result ℕ Refusal} {d : List ℕ} → Lent (gives (text_of (book_rows head B L own))) x r d → Lent (file_in B L account payment_type) x r d
        file_written {x} {r} {d} z = subst (λ (o : Outcome). Lent o x r d) given_is z

-- ---- the call

module _ (b l : List ℕ) (account payment_type : ℕ) where
  -- 15
  pub file_15 : 2 < payment_type → {x : List ℕ} → Lent (file_outcome b l account payment_type) x (refused 15 0) x
  unfolding file_outcome
  file_15 t {x} = lent_refused 15 0 _ x (rw (le-leb 3 payment_type (omega arith)))

  module _ (t : payment_type ≤ 2) where
    pub book_refused : {r : Result ℕ Refusal} {z : Refusal} → verdict b l ≡ Err z → r ≡ Err z → {x : List ℕ} → Lent (file_outcome b l account payment_type) x r x
    unfolding file_outcome instead
    book_refused {z = z} e f {x} = rw f (lent_refused z.number z.place _ x (rw (lt-leb 3 payment_type (omega arith), outcome_refused b l account e)))

    -- x has the two books that were accepted
    module _ {x : BothBooks} (k : BothOf b l x) where
      outcome_is : file_in (book_at x.book) (book_at x.second) account payment_type ≡ file_outcome b l account payment_type
      unfolding file_outcome outcome outcome_if
      outcome_is = rw (lt-leb 3 payment_type (omega arith), k.unrefused, k.header, k.book, k.second_header, k.second)

      pub file_settled : {y : List ℕ} {r : Result ℕ Refusal} {d : List ℕ} → Lent (file_in (book_at x.book) (book_at x.second) account payment_type) y r d → Lent (file_outcome b l account payment_type) y r d
      file_settled {y} {r} {d} z = subst (λ (o : Outcome). Lent o y r d) outcome_is z
