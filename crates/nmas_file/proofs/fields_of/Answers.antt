-- `nmas_file::fields_of` meets its contract. The amounts are the sizes of the statement's lines, and each is at most 50,000,000,000. Assumes nothing.
use native.Mathlib.Omega.{arith}
use Rattle.records.specs.Rows.{entry_row}
use Rattle.amounts.proofs.Sizes.{halves_small}
use Rattle.nmas_file.proofs.Fields.{sum_small}
use Rattle.nmas_file.proofs.fields_of.Goals as goal

pub invariant_of-consumed : goal.invariant_of-consumed
invariant_of-consumed c = record { shared = rw c.entry_row-e.ensures (c.requires.fileable.settles.ace _ c.requires.in_bounds.1.0 c.requires.in_bounds.1.1) }

pub invariant_of-sent : goal.invariant_of-sent
invariant_of-sent c = record { shared = rw c.entry_row-e.ensures (c.requires.fileable.settles.asoe _ c.requires.in_bounds.1.0 c.requires.in_bounds.1.1) }

pub ace_line-requires-clause-small_halves : goal.ace_line-requires-clause-small_halves
ace_line-requires-clause-small_halves c = let rule = c.requires.fileable.settles.rule in
    rw c.halves_of-x.ensures (halves_small _ _ rule.payment (rule.factor _ c.requires.in_bounds.1.0))

pub asoe_line-requires-clause-small_halves : goal.asoe_line-requires-clause-small_halves
asoe_line-requires-clause-small_halves c = let rule = c.requires.fileable.settles.rule in
    rw c.halves_of-x.ensures (halves_small _ _ rule.payment (rule.factor _ c.requires.in_bounds.1.0))

pub overflow_add-result : goal.overflow_add-result
overflow_add-result c = omega (arith, sum_small c.args.head (entry_row c.args.regions.now) c.args.own.now c.args.k c.args.g c.entry_row-e.ensures c.halves_of-x.ensures (rw c.ace_line.ensures at c.size_of-by_ace.ensures) (rw c.asoe_line.ensures at c.size_of-by_asoe.ensures) c.requires.fileable c.requires.in_bounds.1.0 c.requires.in_bounds.1.1)
