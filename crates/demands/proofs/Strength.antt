-- What the demands come to, said once more and without their definitions, so that a demand that says less is refused here. Assumes nothing.
use Prim.Native.Nat.{ℕ, ◌+◌, ◌*◌, ◌≤◌, ◌<◌}
use mathlib.Core.Path.{◌≡◌, refl, sym, ap, ◌∙◌}
use mathlib.Core.Logic.{◌⊎◌, inl, inr, ◌↔◌}
use mathlib.Core.Bool.{Bool, true, false, ◌||◌}
use mathlib.Core.List.{List, [], ◌∷◌}
use native.Mathlib.Omega.{arith}
use borrow.Author.Tests.{eqb-true}
use lib.Dec.{eqb}
use lib.IntN.{ℤ, pos, nat_abs, ◌+ℤ◌, ◌*ℤ◌}
use lib.ListN.{length}
use Rattle.numbers.proofs.Ring.{times_cancel}
use Rattle.sections.specs.Refusal.{unrefused}
use Rattle.sections.proofs.Cases.{zero_one}
use Rattle.ground.specs.Bytes.{AreBytes, i64_at}
use Rattle.ground.specs.Inner.Each.{Each}
use Rattle.locking.specs.Locking.{reads_locked}
use Rattle.book.specs.Header.{header_of}
use Rattle.book.specs.Book.{book_of}
use Rattle.book.specs.Table.{locked_for, verdict}
use Rattle.accounts.specs.Account.{public_of, rows_of_account}
use Rattle.sharing.specs.Once.{has}
use Rattle.statement.specs.Lent.{Outcome, length_for}
use Rattle.statement.specs.declared.Line.{Line}
use Rattle.reading.specs.Calls.{heading_read, line_read}
use Rattle.lines.specs.Limit.{WithinLimit}
use Rattle.settlement.specs.Settle.{lines_for, outcome}
use Rattle.guide.specs.Guide.{guide_lines}
use Rattle.ground.specs.Nth.{nth}
use Rattle.nmas_reading.specs.Reading.{numbered_row}
use Rattle.nmas_file.specs.File.{file_rows_for, file_outcome}
use Rattle.balance.specs.Balance.{balance_of}
use Rattle.cutoffs.specs.Cutoffs.{stages_in, stage_at, cut_of}
use Rattle.closing.specs.Explained.{said_by}
use Rattle.answers.specs.Answers.{verdict_answer, written_answer, heading_answer, entry_answer, pool_answer, cut_answer, nmas_entry_answer, Called, EntryCalled}
use Rattle.answers.specs.declared.WrittenAnswer.{WrittenAnswer}
use Rattle.answers.specs.declared.EntryAnswer.{EntryAnswer}
use Rattle.answers.specs.declared.PoolAnswer.{PoolAnswer}
use Rattle.answers.specs.declared.CutAnswer.{CutAnswer}
use Rattle.answers.specs.declared.CostAnswer.{CostAnswer}
use Rattle.answers.specs.declared.NmasSizeAnswer.{NmasSizeAnswer}
use Rattle.answers.specs.declared.NmasEntryAnswer.{NmasEntryAnswer}
use Rattle.demands.specs.Demand1.{on_a_book, on_a_length, on_dispatch_rows, on_rows, OneOf, Answered, written, short, refused, LengthAnswered, CostAnswered, NmasSizeAnswered}
use Rattle.demands.specs.Demand2.{front, LinesAreTheLineCalls, PoolCloses}
use Rattle.demands.specs.Demand3.{LockedAgree, costless_public, Way, CostsMade}
use Rattle.demands.specs.File.{WrittenAndRead}
use Rattle.demands.specs.Length.{AskedFirst}
use Rattle.demands.proofs.Length.{length_is_the_statements}
use Rattle.demands.proofs.Demand3.{no_neighbours_figure, costs_are_public}
use Rattle.demands.proofs.Unread.{locked_only_where_read}
use Rattle.demands.proofs.Explained.{balances_are_explained}
use Rattle.demands.proofs.Limit.{no_line_passes_the_limit}
use Rattle.demands.proofs.Example.{book_a, locked_a, book_b, locked_b, two_pairs_agree, book_at_limit, at_limit_accepted, at_limit_line}

-- ---- demand 1

-- what holds of a number, and of those of a list, holds of one of them all
one_more : (P : ℕ → Type 0) (x : ℕ) (l : List ℕ) → P x → ((n : ℕ) → OneOf l n → P n) → (n : ℕ) → OneOf (x ∷ l) n → P n
unfolding has
one_more P x l h rest n e = by (eqb x n) refl e
  where
    by : (t : Bool) → eqb x n ≡ t → (t || has n l) ≡ true → P n
    by true t d = let same : x ≡ n = eqb-true x n t in rw (← same) h
    by false t d = rest n d

one_of : (P : ℕ → Type 0) (l : List ℕ) → Each P l → (n : ℕ) → OneOf l n → P n
unfolding has
one_of P [] h n e = absurd (zero_one cc)
one_of P (x ∷ l) h n e = one_more P x l h.0 (one_of P l h.1) n e

-- a call refuses by the numbers of its table and no others: 0 is none of them, a check gives 1 to 10 and 17 and 18, a length 11 and 12 besides
abbrev From1To : ℕ → ℕ → Type 0
From1To last n = ((1 ≤ n) × (n ≤ last)) ⊎ ((n ≡ 17) ⊎ (n ≡ 18))

-- a number of the table
listed : {last n : ℕ} → 1 ≤ n → n ≤ last → From1To last n
listed a b = inl (a, b)

pub book_numbers : (n : ℕ) → OneOf on_a_book n → From1To 10 n
book_numbers =
    one_of (From1To 10) on_a_book (
      listed (omega arith) (omega arith),
      (
        listed (omega arith) (omega arith),
        (
          listed (omega arith) (omega arith),
          (
            listed (omega arith) (omega arith),
            (
              listed (omega arith) (omega arith),
              (
                listed (omega arith) (omega arith),
                (
                  listed (omega arith) (omega arith),
                  (
                    listed (omega arith) (omega arith),
                    (listed (omega arith) (omega arith), (inr (inl refl), (inr (inr refl), (listed (omega arith) (omega arith), tt)))),
                  ),
                ),
              ),
            ),
          ),
        ),
      ),
    )

-- a length is refused by 1 to 12, 17 and 18, and then none is told
pub length_numbers : (n : ℕ) → OneOf on_a_length n → From1To 12 n
length_numbers =
    one_more (From1To 12) 11 _ (listed (omega arith) (omega arith))
    (one_more (From1To 12) 12 _ (listed (omega arith) (omega arith)) (λ n h. wider n (book_numbers n h)))
  where
    wider : (n : ℕ) → From1To 10 n → From1To 12 n
    wider n (inl h) = inl (h.0, omega (arith, h.1))
    wider n (inr h) = inr h

pub refused_without_length : (r : WrittenAnswer) → LengthAnswered r → (r.refusal ≡ 0 → ⊥) → From1To 12 r.refusal × (r.length ≡ 0)
refused_without_length r (inl h) z = absurd (z h.0)
refused_without_length r (inr h) z = (length_numbers r.refusal h.0, ap (λ (w : WrittenAnswer). w.length) h.1)

-- a refused call leaves every byte
pub refused_and_left : (numbers : List ℕ) (o : Outcome) (l : List ℕ) (r : WrittenAnswer) (x : List ℕ) → Answered numbers o l r x → (r.refusal ≡ 0 → ⊥) → x ≡ l
refused_and_left numbers o l r x (written xs e g) z = absurd (z (ap (λ (w : WrittenAnswer). w.refusal) g.answer))
refused_and_left numbers o l r x (short xs e h k g) z = g.bytes
refused_and_left numbers o l r x (refused number place e h g) z = g.bytes

-- dispatch rows are refused by 16, and then there is no amount
pub rows_number : (n : ℕ) → OneOf on_dispatch_rows n → n ≡ 16
rows_number = one_of (λ n. n ≡ 16) on_dispatch_rows (refl, tt)

pub refused_without_amount : (r : CostAnswer) → CostAnswered r → (r.refusal ≡ 0 → ⊥) → (r.refusal ≡ 16) × (r.amount ≡ 0)
refused_without_amount r (inl h) z = absurd (z h.0)
refused_without_amount r (inr h) z = (rows_number r.refusal h.0, ap (λ (a : CostAnswer). a.amount) h.1)

-- a text is refused by 19, and then no rows are told
pub text_number : (n : ℕ) → OneOf on_rows n → n ≡ 19
text_number = one_of (λ n. n ≡ 19) on_rows (refl, tt)

pub refused_without_rows : (r : NmasSizeAnswer) → NmasSizeAnswered r → (r.refusal ≡ 0 → ⊥) → (r.refusal ≡ 19) × (r.rows ≡ 0)
refused_without_rows r (inl h) z = absurd (z h.0)
refused_without_rows r (inr h) z = (text_number r.refusal h.0, ap (λ (a : NmasSizeAnswer). a.rows) h.1)

-- ---- the length, asked for before writing

module _ (b t : List ℕ) (account : ℕ) (l : List ℕ) (r s : WrittenAnswer) (x : List ℕ) (p : r ≡ written_answer (length_for (outcome b t account))) (q : Called (outcome b t account) l s x) where
  asked : AskedFirst l r s x
  asked = length_is_the_statements.calls b t account l r s x p q

  pub length_is_of_what_is_written : s.refusal ≡ 0 → r.length ≡ s.length
  length_is_of_what_is_written z = ap (λ (w : WrittenAnswer). w.length) (asked.same z)

  pub just_room_is_never_refused : r.refusal ≡ 0 → length l ≡ r.length → s.refusal ≡ 0
  just_room_is_never_refused z h = ap (λ (w : WrittenAnswer). w.refusal) (asked.enough z (omega (arith, h))) ∙ z

  pub one_byte_less_is_13 : r.refusal ≡ 0 → length l + 1 ≡ r.length → (s.refusal ≡ 13) × (x ≡ l)
  one_byte_less_is_13 z h =
      let short = asked.short z (omega (arith, h)) in
      (ap (λ (w : WrittenAnswer). w.refusal) short.answer, short.bytes)

  pub same_number_and_place : (r.refusal ≡ 0 → ⊥) → (s.refusal ≡ r.refusal) × (s.place ≡ r.place) × (x ≡ l)
  same_number_and_place z =
      let refused = asked.refused z in
      (ap (λ (w : WrittenAnswer). w.refusal) refused.answer, ap (λ (w : WrittenAnswer). w.place) refused.answer, refused.bytes)

  -- and back: what the writing call refuses by another number than 13, the length call refuses alike
  pub same_number_and_place_back : (s.refusal ≡ 0 → ⊥) → (s.refusal ≡ 13 → ⊥) → r ≡ s
  same_number_and_place_back z k = asked.back z k

-- 24 bytes, and 24 for each line that the guide gives the account
pub length_by_the_guide : (b t : List ℕ) → AreBytes b → AreBytes t → (account : ℕ) (r : WrittenAnswer) → r ≡ written_answer (length_for (outcome b t account)) → r.refusal ≡ 0 → r.length ≡ 24 + 24 * length (guide_lines b (locked_for b t) account)
length_by_the_guide b t bytes also account r p z = length_is_the_statements.lines b t bytes also account r p z

-- ---- demand 2

-- so many half units and no more
pub within_half_units : (b t : List ℕ) (number : ℕ) (r : PoolAnswer) (c : PoolCloses b t number r) → 2 * nat_abs (r.amount +ℤ r.sum) ≤ r.lines + c.pool.stages
within_half_units b t number r c = c.closes

-- every amount that is handed out is the one that the line call answers
pub each_amount : (s : List ℕ) (r : WrittenAnswer) (x : List ℕ) → LinesAreTheLineCalls s r x → (i : ℕ) → i < (heading_answer (heading_read s)).lines → i64_at (front r x) (i * 40 + 32) ≡ (entry_answer (line_read s i)).amount
each_amount s r x c i h = ap (λ (e : EntryAnswer). e.amount) (c.lines i h)

-- every row of a file that was written is read
pub each_row_is_read : (b t : List ℕ) (account payment_type : ℕ) (r : WrittenAnswer) (x : List ℕ) → WrittenAndRead b t account payment_type r x → (index : ℕ) (q : NmasEntryAnswer) → EntryCalled (front r x) index q → q ≡ nmas_entry_answer (numbered_row (nth (file_rows_for (book_of b) (book_of (locked_for b t)) account payment_type) index))
each_row_is_read b t account payment_type r x c index q e = c.row index q e

-- ---- demand 3

-- the two pairs of books of the example
pub the_example : (l : List ℕ) (r s : WrittenAnswer) (x y : List ℕ) → Called (outcome book_a locked_a 7) l r x → Called (outcome book_b locked_b 7) l s y → (r ≡ s) × (x ≡ y)
the_example l r s x y p q = let same = no_neighbours_figure.same book_a locked_a book_b locked_b 7 l r s x y two_pairs_agree p q in (same.answer, same.bytes)

-- and their lengths
pub the_example_s_lengths : (r s : WrittenAnswer) → r ≡ written_answer (length_for (outcome book_a locked_a 7)) → s ≡ written_answer (length_for (outcome book_b locked_b 7)) → r ≡ s
the_example_s_lengths r s p q = no_neighbours_figure.length book_a locked_a book_b locked_b 7 r s two_pairs_agree p q

-- and their files
pub the_example_s_files : (payment_type : ℕ) (l : List ℕ) (r s : WrittenAnswer) (x y : List ℕ) → Called (file_outcome book_a locked_a 7 payment_type) l r x → Called (file_outcome book_b locked_b 7 payment_type) l s y → (r ≡ s) × (x ≡ y)
the_example_s_files payment_type l r s x y p q = let same = no_neighbours_figure.file book_a locked_a book_b locked_b 7 payment_type l r s x y two_pairs_agree p q in (same.answer, same.bytes)

-- books that agree in all but their costs, and have these from the same dispatch rows; without a contract of kind 2, whatever is lent as the locked book
pub costs_from_rows : (rows : List ℕ) (way : ℕ → Way) (b t c u : List ℕ) (account : ℕ) (l : List ℕ) (r s : WrittenAnswer) (x y : List ℕ) → verdict b t ≡ unrefused → verdict c u ≡ unrefused → costless_public (public_of (book_of b)) ≡ costless_public (public_of (book_of c)) → rows_of_account (book_of b) account ≡ rows_of_account (book_of c) account → reads_locked (book_of b).contract (header_of b).contracts ≡ false → CostsMade rows way b → CostsMade rows way c → Called (outcome b t account) l r x → Called (outcome c u account) l s y → (r ≡ s) × (x ≡ y)
costs_from_rows rows way b t c u account l r s x y first second public own none made also p q =
    let unread : LockedAgree b t u account = record { read = λ e. absurd (zero_one (cc (sym none ∙ e))) } in
    let same = costs_are_public.made rows way b t c u account l r s x y (record { first = first; second = second; public = public; own_rows = own; locked_parts = unread }) made also p q in
    (same.answer, same.bytes)

-- ---- a locked book that is not read: whatever is lent, each call answers the same, and the statement call leaves the same

module _ (b t u : List ℕ) (none : reads_locked (book_of b).contract (header_of b).contracts ≡ false) where
  pub check_without_tests : verdict_answer (verdict b t) ≡ verdict_answer (verdict b u)
  check_without_tests = locked_only_where_read.check b t u none _ _ refl refl

  pub length_without_tests : (account : ℕ) → written_answer (length_for (outcome b t account)) ≡ written_answer (length_for (outcome b u account))
  length_without_tests account = locked_only_where_read.length b t u none account _ _ refl refl

  pub statement_without_tests : (account : ℕ) (l : List ℕ) (r s : WrittenAnswer) (x y : List ℕ) → Called (outcome b t account) l r x → Called (outcome b u account) l s y → (r ≡ s) × (x ≡ y)
  statement_without_tests account l r s x y p q = let same = locked_only_where_read.statement b t u none account l r s x y p q in (same.answer, same.bytes)

  pub balance_without_tests : (number : ℕ) → pool_answer (balance_of b t number) ≡ pool_answer (balance_of b u number)
  balance_without_tests number = locked_only_where_read.balance b t u none number _ _ refl refl

  pub cutoff_without_tests : (number index : ℕ) → cut_answer (cut_of b t number index) ≡ cut_answer (cut_of b u number index)
  cutoff_without_tests number index = locked_only_where_read.cutoff b t u none number index _ _ refl refl

  pub file_without_tests : (account payment_type : ℕ) (l : List ℕ) (r s : WrittenAnswer) (x y : List ℕ) → Called (file_outcome b t account payment_type) l r x → Called (file_outcome b u account payment_type) l s y → (r ≡ s) × (x ≡ y)
  file_without_tests account payment_type l r s x y p q = let same = locked_only_where_read.file b t u none account payment_type l r s x y p q in (same.answer, same.bytes)

-- ---- balances explained

-- amount plus sum is what the stages of the pool say, and no other number is: r is a balance, and c are the pool's cut-offs
module _ (b l : List ℕ) (number : ℕ) (r : PoolAnswer) (c : ℕ → CutAnswer) (a : r ≡ pool_answer (balance_of b l number)) (d : (index : ℕ) → c index ≡ cut_answer (cut_of b l number index)) where
  pub only_remainder : (z : r.refusal ≡ 0) → let p = (balances_are_explained.balance b l number r c a d z).pool in let said = said_by (stages_in (book_of b) (book_of (locked_for b l)) p) in (x : ℤ) → (x *ℤ pos said.under ≡ said.over) ↔ (x ≡ r.amount +ℤ r.sum)
  only_remainder z x =
      let e = balances_are_explained.balance b l number r c a d z in
      ((λ h. times_cancel x (r.amount +ℤ r.sum) _ e.above (h ∙ sym e.exact)), λ h. rw h e.exact)

  pub each_stage_named : (z : r.refusal ≡ 0) → let p = (balances_are_explained.balance b l number r c a d z).pool in (index : ℕ) → c index ≡ cut_answer (stage_at (stages_in (book_of b) (book_of (locked_for b l)) p) index)
  each_stage_named z index = (balances_are_explained.balance b l number r c a d z).named index

  pub refused_alike : (r.refusal ≡ 0 → ⊥) → (index : ℕ) → ((c index).refusal ≡ r.refusal) × ((c index).place ≡ r.place)
  refused_alike z index = balances_are_explained.refused b l number r c a d z index

-- ---- the limit

-- either way, of every account, whatever is lent as the locked book
pub within_either_way : (b t : List ℕ) (account : ℕ) → verdict b t ≡ unrefused → Each (λ line. nat_abs line.amount ≤ 50_000_000_000) (lines_for (book_of b) (book_of (locked_for b t)) account)
within_either_way b t account e = sizes (lines_for (book_of b) (book_of (locked_for b t)) account) (no_line_passes_the_limit.lines b t account e)
  where
    sizes : (lines : List Line) → Each WithinLimit lines → Each (λ line. nat_abs line.amount ≤ 50_000_000_000) lines
    sizes [] h = tt
    sizes (line ∷ lines) h = (h.0.small, sizes lines h.1)

-- the example's line is just as large, so that no smaller limit holds of every line
pub limit_is_reached : (n : ℕ) → ((b t : List ℕ) (account : ℕ) → verdict b t ≡ unrefused → Each (λ line. nat_abs line.amount ≤ n) (lines_for (book_of b) (book_of (locked_for b t)) account)) → 50_000_000_000 ≤ n
limit_is_reached n h = (rw at_limit_line at (h book_at_limit [] 7 at_limit_accepted)).0
