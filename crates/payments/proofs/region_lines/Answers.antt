-- `payments::region_lines` meets its contract. A region without a factor gives nothing, and any other its two lines. Assumes nothing.
use Rattle.payments.proofs.Regions.{region_none, region_room, region_out}
use Rattle.amounts.proofs.Sizes.{halves_small}
use Rattle.payments.proofs.region_lines.Goals as goal

pub returns-then-factor-eq0 : goal.returns-then-factor-eq0
returns-then-factor-eq0 c = region_none _ _ _ _ c.if-factor-eq0.true

pub ace_line-by_ace-requires-clause-small_halves : goal.ace_line-by_ace-requires-clause-small_halves
ace_line-by_ace-requires-clause-small_halves c = rw c.halves_of-x.ensures (halves_small _ _ c.requires.contract_settles.rule.payment (c.requires.contract_settles.rule.factor _ c.requires.in_bounds.1))

pub asoe_line-by_asoe-requires-clause-small_halves : goal.asoe_line-by_asoe-requires-clause-small_halves
asoe_line-by_asoe-requires-clause-small_halves c = rw c.halves_of-x.ensures (halves_small _ _ c.requires.contract_settles.rule.payment (c.requires.contract_settles.rule.factor _ c.requires.in_bounds.1))

pub emit_two-requires : goal.emit_two-requires
emit_two-requires c = region_room _ _ _ _ c.if-factor-eq0.false c.requires.line_room

pub returns : goal.returns
returns c = region_out _ _ _ _ c.if-factor-eq0.false c.halves_of-x.ensures c.entry_row-e.ensures c.ace_line-by_ace.ensures c.asoe_line-by_asoe.ensures c.emit_two.ensures
