-- `checks::factor_sums` meets its contract. The walk over constraints and their unit rows finds the constraint. Assumes nothing.
use native.Mathlib.Omega.{arith}
use Rattle.sections.proofs.Verdicts.{bad_within}
use Rattle.checks.proofs.Answered.{check8_is}
use Rattle.checks.proofs.factor_sums.Goals as goal

pub at_record-requires : goal.at_record-requires
at_record-requires c = record { offset_bound = omega arith; by_index = λ i f. omega (arith, bad_within _ _ f c.factors-found.ensures, c.args.book.now.laid.few.constraints) }

pub returns : goal.returns
returns c = check8_is c.args.book.now.bytes.now _ c.constraints.ensures.bytes c.units.ensures.bytes c.factors-found.ensures c.at_record.ensures
