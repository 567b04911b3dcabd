-- The line of a number: what is asked of the walk's lines is asked of the statement's. Assumes nothing.
use Prim.Native.Nat.{ℕ}
use mathlib.Core.Path.{◌≡◌, sym, ap, ◌∙◌}
use mathlib.Core.List.{List}
use Rattle.book.specs.Book.{Book}
use Rattle.accounts.specs.declared.energies.OwnEnergies.{OwnEnergies}
use Rattle.statement.specs.declared.Line.{Line}
use Rattle.lines.specs.Inner.Walks.{book_lines}
use Rattle.std.specs.Prelude.{Result}
use Rattle.lookup.specs.ByNumber.{numbered_in}
use Rattle.settlement.specs.Settle.{lines_for}
use Rattle.settlement.proofs.Owned.{Owned}

-- what `numbered::line_at` answers is the line of that number in the statement
pub line_of_the_statement : (B L : Book) (account : ℕ) (own : OwnEnergies) → Owned B L account own → (number : ℕ) {x : Result Line ℕ} → x ≡ numbered_in (book_lines B L account own) number → x ≡ numbered_in (lines_for B L account) number
line_of_the_statement B L account own o number e = e ∙ ap (λ (ls : List Line). numbered_in ls number) (sym o.lines)
