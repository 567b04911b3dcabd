-- `checks::zero_totals` meets its contract. Constraints come before contracts, and each gives its own place. Assumes nothing.
use native.Mathlib.Omega.{arith}
use Rattle.sections.proofs.Verdicts.{bad_within}
use Rattle.checks.proofs.Answered.{check10_is}
use Rattle.checks.proofs.zero_totals.Goals as goal

pub at_record-requires : goal.at_record-requires
at_record-requires c = record { offset_bound = omega arith; by_index = λ i f. omega (arith, bad_within _ _ f c.constraints-shared.ensures, c.args.book.now.laid.few.constraints) }

pub at_record-requires-2 : goal.at_record-requires-2
at_record-requires-2 c = let few = c.args.book.now.laid.few in
    record { offset_bound = omega (arith, c.contracts_at.ensures, few); by_index = λ i f. omega (arith, bad_within _ _ f c.contracts-paid.ensures, few.contracts) }

pub returns : goal.returns
returns c = let args = c.args in
    check10_is args.book.now.bytes.now _ args.locked.now
    c.entries.ensures.bytes c.constraints.ensures.bytes c.contracts.ensures.bytes
    c.contracts_at.ensures
    c.constraints-shared.ensures
    c.contracts-paid.ensures
    c.at_record.ensures c.at_record-2.ensures c.earlier.ensures
