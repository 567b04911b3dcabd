-- The reconciliation file: it and the statement can't disagree, what is written is read, and what is read is the spelling of its rows. Assumes nothing.
use Prim.Native.Nat.{ℕ, ◌<◌, ◌^◌}
use mathlib.Core.Path.{◌≡◌, refl, sym, ap, ◌∙◌}
use mathlib.Core.Bool.{Bool, true, false, cond}
use mathlib.Core.List.{List}
use native.Mathlib.Omega.{arith}
use borrow.Author.Tests.{leb-false}
use lib.Dec.{leb}
use lib.ListN.{length}
use Rattle.sections.proofs.Cases.{zero_one}
use Rattle.ground.specs.Bytes.{AreBytes}
use Rattle.ground.specs.Nth.{nth}
use Rattle.ground.specs.Inner.Each.{Each}
use Rattle.sharing.specs.Once.{has}
use Rattle.book.specs.Book.{book_of}
use Rattle.book.specs.Table.{locked_for}
use Rattle.accounts.specs.Account.{public_of, rows_of_account, locked_of}
use Rattle.statement.specs.Lent.{Outcome, refuses, gives}
use Rattle.settlement.specs.Settle.{outcome}
use Rattle.settlement.proofs.Settled.{apart}
use Rattle.nmas.specs.Rows.{text_of, RowFine}
use Rattle.nmas.specs.declared.Row.{Row}
use Rattle.nmas_reading.specs.Reading.{TextRead, all, part, rows_read, row_read, numbered_row}
use Rattle.nmas_reading.proofs.Once.{one_reading, one_spelling}
use Rattle.nmas_file.specs.File.{instead, file_outcome}
use Rattle.nmas_file.proofs.Fine.{file_rows_fine}
use Rattle.nmas_file.proofs.Lines.{file_lines_are_the_statements}
use Rattle.answers.specs.Answers.{nmas_size_answer, nmas_entry_answer, SizeCalled, EntryCalled}
use Rattle.answers.specs.declared.WrittenAnswer.{WrittenAnswer}
use Rattle.answers.specs.declared.NmasSizeAnswer.{NmasSizeAnswer}
use Rattle.answers.specs.declared.NmasEntryAnswer.{NmasEntryAnswer}
use Rattle.demands.specs.Demand1.{FileCall, on_a_file}
use Rattle.demands.specs.Demand2.{front}
use Rattle.demands.specs.File.{rows_of_file, WrittenAndRead, ReadAndWritten, FileIsTheStatements}
use Rattle.demands.proofs.Given.{given, front_is}
use Rattle.demands.proofs.Demand1.{every_input_is_answered}

-- ---- written and read

module _ (rs : List Row) (fine : Each RowFine rs) (s : List ℕ) (same : s ≡ text_of rs) where
  reading : TextRead s
  reading = all rs (record { fine = fine; same = sym same })

  rows_read_lem : (q : NmasSizeAnswer) → SizeCalled s q → q ≡ record { refusal = 0; place = 0; rows = length rs }
  unfolding nmas_size_answer rows_read reading
  rows_read_lem q c = c.answer ∙ ap nmas_size_answer (one_reading s c.reading reading).0

  row_read_lem : (index : ℕ) (q : NmasEntryAnswer) → EntryCalled s index q → q ≡ nmas_entry_answer (numbered_row (nth rs index))
  unfolding row_read reading
  row_read_lem index q c = c.answer ∙ ap nmas_entry_answer ((one_reading s c.reading reading).1 index)

none : (has 0 on_a_file ≡ true) → ⊥
unfolding has
none e = zero_one cc

-- what is given is the file's text, and its rows are such as are read
file_text : (b t : List ℕ) → AreBytes b → (account : ℕ) → account < 2 ^ 32 → (payment_type : ℕ) (xs : List ℕ) → file_outcome b t account payment_type ≡ gives xs → (xs ≡ text_of (rows_of_file b t account payment_type)) × Each RowFine (rows_of_file b t account payment_type)
unfolding file_outcome instead
file_text b t bytes account small payment_type xs e = by (leb 3 payment_type) refl e
  where
    settled : (o : Outcome) → outcome b t account ≡ o → leb 3 payment_type ≡ false → instead o (text_of (rows_of_file b t account payment_type)) ≡ gives xs → (xs ≡ text_of (rows_of_file b t account payment_type)) × Each RowFine (rows_of_file b t account payment_type)
    settled (refuses number place) f h d = absurd (apart number place xs d)
    settled (gives ys) f h d =
        let same : gives (text_of (rows_of_file b t account payment_type)) ≡ gives xs = d in
        (cc, file_rows_fine b t account payment_type ys bytes small (omega (arith, leb-false 3 payment_type h)) f)

    by : (t₀ : Bool) → leb 3 payment_type ≡ t₀ → cond t₀ (refuses 15 0) (instead (outcome b t account) (text_of (rows_of_file b t account payment_type))) ≡ gives xs → (xs ≡ text_of (rows_of_file b t account payment_type)) × Each RowFine (rows_of_file b t account payment_type)
    by true h d = absurd (apart 15 0 xs d)
    by false h d = settled (outcome b t account) refl h d

file_written : (b t : List ℕ) → AreBytes b → (account : ℕ) → account < 2 ^ 32 → (payment_type : ℕ) (l : List ℕ) (r : WrittenAnswer) (x : List ℕ) → FileCall b t account payment_type l r x → r.refusal ≡ 0 → WrittenAndRead b t account payment_type r x
file_written b t bytes account small payment_type l r x c z =
    let g = given on_a_file (file_outcome b t account payment_type) l r x none (every_input_is_answered.file b t account payment_type l r x c) z in
    let f = file_text b t bytes account small payment_type g.bytes g.is in
    let same = front_is g.bytes l r x g.gives_them ∙ f.0 in
    record { rows = rows_read_lem _ f.1 (front r x) same; row = row_read_lem _ f.1 (front r x) same }

-- ---- read and written

file_read : (s : List ℕ) (t : TextRead s) (q : NmasSizeAnswer) → q ≡ nmas_size_answer (rows_read t) → q.refusal ≡ 0 → ReadAndWritten s q
unfolding nmas_size_answer rows_read
file_read s (all rs t) q a z =
    record { read = rs; count = ap (λ (w : NmasSizeAnswer). w.rows) a; text = t.same; row = row_read_lem rs t.fine s (sym t.same) }
file_read s (part rs t) q a z = absurd (omega (arith, sym z ∙ ap (λ (w : NmasSizeAnswer). w.refusal) a))

pub file_is_the_statements : FileIsTheStatements
file_is_the_statements =
    record {
      lines = λ b t account payment_type. file_lines_are_the_statements account (public_of (book_of b)) (rows_of_account (book_of b) account) (locked_of (book_of (locked_for b t)) account) payment_type;
      written = λ b t bytes account small payment_type l r x c z. file_written b t bytes account small payment_type l r x c z;
      read = λ s q c z. file_read s c.reading q c.answer z;
      once = λ ps qs f g e. one_spelling ps qs f g e;
    }
