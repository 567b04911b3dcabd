-- `verdict::lent` meets its contract. A test payment asks for a locked book that fits, and is the place of both refusals. Assumes nothing.
use mathlib.Core.Path.{ap, sym, ◌∙◌}
use mathlib.Core.Bool.{not}
use native.Mathlib.Omega.{arith}
use Rattle.sections.proofs.Verdicts.{bad_within}
use Rattle.verdict.proofs.InTurn.{no_tests, stop17, stop18, both_pass}
use Rattle.verdict.proofs.lent.Goals as goal

pub at_record-requires : goal.at_record-requires
at_record-requires c = record { offset_bound = omega (arith, c.args.book.now.laid.few, c.contracts_at-from.ensures); by_index = λ i f. omega (arith, bad_within _ _ f c.first_test-found.ensures, c.args.book.now.laid.few.contracts) }

pub returns-then-is_empty : goal.returns-then-is_empty
returns-then-is_empty c = let args = c.args in
    stop17 args.book.now.bytes.now args.book.now.header args.locked.now c.contracts.ensures.bytes c.contracts_at-from.ensures c.first_test-found.ensures c.in-Some.is (sym c.is_empty.ensures ∙ c.if-is_empty.true) c.at_record.ensures

pub at_record-requires-then-not-locks : goal.at_record-requires-then-not-locks
at_record-requires-then-not-locks c = record { offset_bound = omega (arith, c.args.book.now.laid.few, c.contracts_at-from.ensures); by_index = λ i f. omega (arith, bad_within _ _ f c.first_test-found.ensures, c.args.book.now.laid.few.contracts) }

pub returns-then-not-locks : goal.returns-then-not-locks
returns-then-not-locks c = let args = c.args in
    stop18 args.book.now.bytes.now args.book.now.header args.locked.now c.contracts.ensures.bytes c.contracts_at-from.ensures c.first_test-found.ensures c.in-Some.is (sym c.is_empty.ensures ∙ c.if-is_empty.false) c.locks.ensures (ap not c.if-not-locks.true) c.at_record-then-not-locks.ensures

pub returns-in-None : goal.returns-in-None
returns-in-None c = let args = c.args in
    no_tests args.book.now.bytes.now args.book.now.header args.locked.now c.contracts.ensures.bytes c.contracts_at-from.ensures c.first_test-found.ensures c.in-None.is

pub returns-else-not-locks : goal.returns-else-not-locks
returns-else-not-locks c = let args = c.args in
    both_pass args.book.now.bytes.now args.book.now.header args.locked.now c.contracts.ensures.bytes c.contracts_at-from.ensures c.first_test-found.ensures c.in-Some.is (sym c.is_empty.ensures ∙ c.if-is_empty.false) c.locks.ensures (ap not c.if-not-locks.false)
