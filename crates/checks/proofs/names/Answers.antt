-- `checks::names` meets its contract. The walk over unit rows and constraints finds the row, and its place is in the unit section. Assumes nothing.
use native.Mathlib.Omega.{arith}
use Rattle.sections.proofs.Verdicts.{bad_within}
use Rattle.checks.proofs.Answered.{check7_is}
use Rattle.checks.proofs.names.Goals as goal

pub at_record-requires : goal.at_record-requires
at_record-requires c = let few = c.args.book.now.laid.few in
    record { offset_bound = omega (arith, c.units_at.ensures, few.constraints); by_index = λ i f. omega (arith, bad_within _ _ f c.names-found.ensures, few.units) }

pub returns : goal.returns
returns c = check7_is c.args.book.now.bytes.now _ c.constraints.ensures.bytes c.units.ensures.bytes c.units_at.ensures c.names-found.ensures c.at_record.ensures
