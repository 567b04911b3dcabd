-- By what a book is first looked at: the checks of the short sections, and whether a verdict accepts. Only contracts of inner functions
-- speak of these.
use Rattle.std.specs.Prelude.{List, [], ◌∷◌, Bool, true, false, Ok, Err}
use Rattle.sections.specs.First.{first_bad}
use Rattle.sections.specs.Order.{rises_by}
use Rattle.sections.specs.Refusal.{at_record, Verdict}
use Rattle.rules.specs.Rules.{entry_ok, constraint_ok, contract_ok, constraint_below, contract_below}
use Rattle.book.specs.Header.{contracts_from}
use Rattle.book.specs.Book.{Book}

-- 5 and 6 of the region entries, the constraints and the contracts
unfoldable pub short_checks : Book → List Verdict
short_checks B =
    at_record 5 24 12 (first_bad (λ i. entry_ok (B.entry i)) 5)
    ∷ at_record 5 84 40 (first_bad (λ i. constraint_ok (B.constraint i)) B.header.constraints)
    ∷ at_record 5 (contracts_from B.header) 36 (first_bad (λ i. contract_ok (B.contract i)) B.header.contracts)
    ∷ at_record 6 84 40 (first_bad (rises_by constraint_below B.constraint) B.header.constraints)
    ∷ at_record 6 (contracts_from B.header) 36 (first_bad (rises_by contract_below B.contract) B.header.contracts)
    ∷ []

-- nothing is refused
unfoldable pub accepts : Verdict → Bool
accepts (Ok _) = true
accepts (Err e) = false
