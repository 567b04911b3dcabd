-- 12: where no pool passes the limit, no line does. Assumes nothing.
use Prim.Native.Nat.{ℕ}
use mathlib.Core.Path.{◌≡◌, sym, ◌∙◌}
use mathlib.Core.Bool.{Bool, false, ◌||◌}
use borrow.Author.Tests.{le-ltb}
use Rattle.sections.specs.Search.{some}
use Rattle.sections.proofs.Search.{some_none}
use Rattle.rules.specs.Inner.Facts.{ConstraintRule}
use Rattle.records.specs.declared.rows.Constraint.{Constraint}
use Rattle.accounts.specs.declared.energies.OwnEnergies.{OwnEnergies}
use Rattle.amounts.proofs.Sizes.{pools_small}
use Rattle.book.specs.Book.{Book}
use Rattle.book.specs.Inner.Accepted.{Sound}
use Rattle.lines.specs.Limit.{any_over}
use Rattle.lines.proofs.Limit.{none_over, book_within}
use Rattle.lines.specs.Inner.Walks.{book_lines, Walkable}
use Rattle.limit.specs.Inner.Limits.{constraint_over, contract_over, book_over}

-- ---- the pools of an accepted book

constraint_under : (r : Constraint) → ConstraintRule r → constraint_over r ≡ false
unfolding constraint_over
constraint_under r h = rw (le-ltb _ _ h.cost, le-ltb _ _ (pools_small r h).fpp)

module _ (B : Book) (p : Sound B) where
  book_under : book_over B ≡ false
  unfolding book_over
  book_under =
      rw (
        some_none (λ j. constraint_over (B.constraint j)) B.header.constraints (λ j l. constraint_under (B.constraint j) (p.fields.constraints j l)),
        some_none (λ k. contract_over (B.contract k)) B.header.contracts (λ k l. le-ltb _ _ (p.fields.contracts k l).payment),
      )

  -- the test on the pools says of the lines what the table asks
  pub over_is : (L : Book) (own : OwnEnergies) → Walkable B L own → (account : ℕ) → book_over B ≡ any_over (book_lines B L account own)
  over_is L own w account = book_under ∙ sym (none_over (book_lines B L account own) (book_within B L own p w account))
