-- No line passes the limit, and so 12 is never given. Assumes nothing.
use Rattle.std.specs.Prelude.{Ok, Err}
use Prim.Native.Nat.{ℕ}
use mathlib.Core.Path.{◌≡◌, refl}
use mathlib.Core.List.{List}
use Rattle.sections.specs.Refusal.{Verdict}
use Rattle.book.specs.Book.{book_of}
use Rattle.book.specs.Table.{locked_for, verdict}
use Rattle.book.proofs.Promise.{accepted}
use Rattle.accounts.specs.Account.{public_of, rows_of_account, locked_of}
use Rattle.lines.proofs.Limit.{none_over}
use Rattle.settlement.specs.Settle.{settled, outcome_if, outcome}
use Rattle.settlement.proofs.Owned.{lines_within}
use Rattle.demands.specs.Limit.{settled_without12, outcome_without12, NoLinePassesTheLimit}

-- where a book is accepted 12 is not met, and where it is refused it is not looked for
same_if : (b t : List ℕ) (account : ℕ) (v : Verdict) → verdict b t ≡ v
    → outcome_if v (settled account (public_of (book_of b)) (rows_of_account (book_of b) account) (locked_of (book_of (locked_for b t)) account))
    ≡ outcome_if v (settled_without12 account (public_of (book_of b)) (rows_of_account (book_of b) account) (locked_of (book_of (locked_for b t)) account))
unfolding outcome_if settled settled_without12
same_if b t account (Ok _) e = rw (none_over _ (lines_within (book_of b) (book_of (locked_for b t)) account (accepted b t e).promise))
same_if b t account (Err x) e = refl

pub no_line_passes_the_limit : NoLinePassesTheLimit
unfolding outcome outcome_without12
no_line_passes_the_limit =
    record {
      lines = λ b t account e. lines_within (book_of b) (book_of (locked_for b t)) account (accepted b t e).promise;
      unchanged = λ b t account. same_if b t account (verdict b t) refl;
    }
