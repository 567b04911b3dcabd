-- Whose energies settle a contract. 02, Req 04: "Kind 2 contracts therefore take energies and region totals from a second book, the locked one;
-- kind 1 from the current one."
use Rattle.std.specs.Prelude.{ℕ, Bool, cond, eqb}
use Rattle.sections.specs.Search.{some}
use Rattle.records.specs.declared.rows.Contract.{Contract}
use Rattle.locking.specs.declared.Source.{Source}
use Rattle.locking.specs.declared.Source.TheVariants.{Current, Locked}

unfoldable pub source_of : ℕ → Source
source_of kind = cond (eqb kind 2) Locked Current

abbrev pub settled_by : Contract → Source
settled_by k = source_of k.kind

-- of what the current and the locked book have, that of the one or the other
abbrev pub pick : {A : Type 0} → Source → A → A → A
pick Current current locked = current
pick Locked current locked = locked

-- 01, The book: "kind u8, 1 ordinary or 2 test"
abbrev pub is_test : Contract → Bool
is_test k = eqb k.kind 2

-- "one is read only where a kind 2 contract stands"
unfoldable pub reads_locked : (ℕ → Contract) → ℕ → Bool
reads_locked contract n = some (λ k. is_test (contract k)) n
