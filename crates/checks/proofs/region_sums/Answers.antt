-- `checks::region_sums` meets its contract. One pass over the energy rows finds the entry. Assumes nothing.
use native.Mathlib.Omega.{arith}
use Rattle.sections.proofs.Verdicts.{bad_within}
use Rattle.checks.proofs.Answered.{check9_is}
use Rattle.checks.proofs.region_sums.Goals as goal

pub at_record-requires : goal.at_record-requires
at_record-requires c = record { offset_bound = omega arith; by_index = λ i f. omega (arith, bad_within _ _ f c.entries-found.ensures) }

pub returns : goal.returns
returns c = check9_is c.args.book.now.bytes.now _ c.entries.ensures.bytes c.energies.ensures.bytes c.entries-found.ensures c.at_record.ensures
