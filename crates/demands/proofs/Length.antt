-- The length asked for before writing: what the two calls promise rests on one outcome, and so they can't disagree. By cases on it. Assumes nothing.
use Rattle.std.specs.Prelude.{Ok}
use Rattle.sections.specs.Refusal.{refused}
use Prim.Native.Nat.{ℕ, ◌+◌, ◌*◌}
use mathlib.Core.Path.{◌≡◌, refl, sym, ap, ◌∙◌}
use mathlib.Core.Bool.{Bool, true, false, cond}
use mathlib.Core.List.{List}
use native.Mathlib.Omega.{arith}
use borrow.Author.Tests.{leb-true, leb-false}
use lib.Dec.{leb}
use lib.ListN.{length}
use Rattle.ground.specs.Bytes.{AreBytes}
use Rattle.ground.specs.Put.{put}
use Rattle.sections.proofs.Cases.{no_yes}
use Rattle.accounts.specs.Account.{public_of, rows_of_account, locked_of}
use Rattle.sharing.specs.Once.{has}
use Rattle.book.specs.Book.{book_of}
use Rattle.book.specs.Table.{locked_for}
use Rattle.statement.specs.Lent.{Outcome, refuses, gives, length_for, answer_for, left_in}
use Rattle.statement.specs.declared.Line.{Line}
use Rattle.settlement.specs.Settle.{outcome}
use Rattle.settlement.proofs.Settled.{statement_long}
use Rattle.trips.proofs.Call.{passed}
use Rattle.guide.proofs.Guide.{every_line_is_the_guides}
use Rattle.answers.specs.Answers.{written_answer, Called}
use Rattle.answers.specs.declared.WrittenAnswer.{WrittenAnswer}
use Rattle.demands.specs.Length.{AskedFirst, AsLongAsTheGuides, LengthIsTheStatements}
use Rattle.demands.proofs.Numbers.{outcome_numbers}
use Rattle.demands.proofs.LockedBytes.{locked_bytes}

-- ---- the two calls beside each other; o is what the rules fix for the input

asked_first : (o : Outcome) (l : List ℕ) (r s : WrittenAnswer) (x : List ℕ) → r ≡ written_answer (length_for o) → Called o l s x → AskedFirst l r s x
unfolding length_for answer_for left_in written_answer
asked_first (refuses number place) l r s x a c =
    record {
      same = λ z. a ∙ sym c.answer;
      enough = λ z h. c.answer ∙ sym a;
      short = λ z h. absurd (omega (arith, h, ap (λ (w : WrittenAnswer). w.length) a));
      refused = λ z. rw a (record { answer = c.answer; bytes = c.left });
      back = λ z k. a ∙ sym c.answer;
    }
asked_first (gives xs) l r s x a c = by (leb (length xs) (length l)) refl c.answer c.left
  where
    by : (t : Bool) → leb (length xs) (length l) ≡ t → s ≡ written_answer (cond t (Ok (length xs)) (refused 13 0)) → x ≡ cond t (put l 0 xs) l → AskedFirst l r s x
    by true t e f =
        record {
          same = λ z. a ∙ sym e;
          enough = λ z h. e ∙ sym a;
          short = λ z h. absurd (omega (arith, h, ap (λ (w : WrittenAnswer). w.length) a, leb-true (length xs) (length l) t));
          refused = λ z. absurd (z (ap (λ (w : WrittenAnswer). w.refusal) a));
          back = λ z k. absurd (z (ap (λ (w : WrittenAnswer). w.refusal) e));
        }
    by false t e f =
        record {
          same = λ z. absurd (omega (arith, sym (ap (λ (w : WrittenAnswer). w.refusal) e) ∙ z));
          enough = λ z h. absurd (omega (arith, h, ap (λ (w : WrittenAnswer). w.length) a, leb-false (length xs) (length l) t));
          short = λ z h. record { answer = e; bytes = f };
          refused = λ z. absurd (z (ap (λ (w : WrittenAnswer). w.refusal) a));
          back = λ z k. absurd (k (ap (λ (w : WrittenAnswer). w.refusal) e));
        }

-- ---- how long it is

long : (b t : List ℕ) → AreBytes b → AreBytes t → (account : ℕ) (o : Outcome) → outcome b t account ≡ o → (r : WrittenAnswer) → r ≡ written_answer (length_for o) → r.refusal ≡ 0 → AsLongAsTheGuides b t account r
unfolding length_for written_answer has
long b t bytes also account (refuses number place) e r a z = absurd (no_yes refl (rw (sym (ap (λ (w : WrittenAnswer). w.refusal) a) ∙ z) at (outcome_numbers b t account number place e)))
long b t bytes also account (gives xs) e r a z =
    let s = passed b t account xs e in
    ap (λ (w : WrittenAnswer). w.length) a
    ∙ ap length s.bytes
    ∙ statement_long account (public_of (book_of b)) (rows_of_account (book_of b) account) (locked_of (book_of (locked_for b t)) account)
    ∙ ap (λ (ls : List Line). 24 + 24 * length ls) (every_line_is_the_guides b t bytes (locked_bytes b t bytes also) s.book account)

pub length_is_the_statements : LengthIsTheStatements
length_is_the_statements =
    record {
      calls = λ b t account l r s x p q. asked_first (outcome b t account) l r s x p q;
      lines = λ b t bytes also account r p. long b t bytes also account (outcome b t account) refl r p;
    }
