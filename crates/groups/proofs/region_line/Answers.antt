-- `groups::region_line` meets its contract. The region benefits, since it has a line, and the number decides which of the two it is. Assumes nothing.
use Rattle.amounts.proofs.Sizes.{halves_small}
use Rattle.groups.proofs.Numbering.{benefits, by_ace_lem, by_asoe_lem}
use Rattle.groups.proofs.region_line.Goals as goal

pub invariant_of-consumed : goal.invariant_of-consumed
invariant_of-consumed c = record { shared = rw c.entry_row-e.ensures (c.requires.contract_settles.ace _ c.requires.in_bounds.1 (benefits _ _ _ _ _ c.requires.i_in_bounds)) }

pub ace_line-requires-clause-small_halves : goal.ace_line-requires-clause-small_halves
ace_line-requires-clause-small_halves c = rw c.halves_of-x.ensures (halves_small _ _ c.requires.contract_settles.rule.payment (c.requires.contract_settles.rule.factor _ c.requires.in_bounds.1))

pub returns-then-i-eq0 : goal.returns-then-i-eq0
returns-then-i-eq0 c = by_ace_lem _ _ _ _ _ c.requires.i_in_bounds c.halves_of-x.ensures c.entry_row-e.ensures c.if-i-eq0.true c.ace_line.ensures

pub invariant_of-sent : goal.invariant_of-sent
invariant_of-sent c = record { shared = rw c.entry_row-e.ensures (c.requires.contract_settles.asoe _ c.requires.in_bounds.1 (benefits _ _ _ _ _ c.requires.i_in_bounds)) }

pub asoe_line-requires-clause-small_halves : goal.asoe_line-requires-clause-small_halves
asoe_line-requires-clause-small_halves c = rw c.halves_of-x.ensures (halves_small _ _ c.requires.contract_settles.rule.payment (c.requires.contract_settles.rule.factor _ c.requires.in_bounds.1))

pub returns : goal.returns
returns c = by_asoe_lem _ _ _ _ _ c.requires.i_in_bounds c.halves_of-x.ensures c.entry_row-e.ensures c.if-i-eq0.false c.asoe_line.ensures
