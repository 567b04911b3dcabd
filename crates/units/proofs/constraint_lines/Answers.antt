-- `units::constraint_lines` meets its contract. The mode decides: one line, or those of the unit rows and of the residual. Assumes nothing.
use native.Mathlib.Omega.{arith}
use Rattle.amounts.proofs.Sizes.{pools_small, residual_small}
use Rattle.emission.proofs.Emission.{emitted_one}
use Rattle.units.proofs.OneConstraint.{no_rows, plain_room, plain_done, units_room, rest_room, rest_done}
use Rattle.units.proofs.constraint_lines.Goals as goal

pub put_line-end-requires : goal.put_line-end-requires
put_line-end-requires c = omega (arith, (plain_room _ _ _ _ _ _ c.if-r-eq-CONTINGENCY.true c.requires.line_room).fits)

pub returns-then-r-eq-CONTINGENCY : goal.returns-then-r-eq-CONTINGENCY
returns-then-r-eq-CONTINGENCY c = let z = c.if-r-eq-CONTINGENCY.true in
    plain_done _ _ _ _ _ _ _ z (no_rows _ _ _ _ c.requires.stands (c.requires.settles.bare z)) c.contingency_line-line.ensures (emitted_one _ c.put_line-end.ensures)

pub unit_run-walked-requires-clause-small_pools : goal.unit_run-walked-requires-clause-small_pools
unit_run-walked-requires-clause-small_pools c = rw c.pools_of-p.ensures (pools_small _ c.requires.settles.rule)

pub unit_run-walked-requires-clause-line_room : goal.unit_run-walked-requires-clause-line_room
unit_run-walked-requires-clause-line_room c = units_room _ _ _ _ _ _ c.if-r-eq-CONTINGENCY.false c.pools_of-p.ensures c.requires.line_room

pub residual_of-x-requires-clause-small_pools : goal.residual_of-x-requires-clause-small_pools
residual_of-x-requires-clause-small_pools c = rw c.pools_of-p.ensures (pools_small _ c.requires.settles.rule)

pub emit_rest-end-requires : goal.emit_rest-end-requires
emit_rest-end-requires c = let h = c.requires.settles in
    let p = c.pools_of-p.ensures in
    let x = c.residual_of-x.ensures in
    record { line_room = rest_room _ _ _ _ _ _ c.if-r-eq-CONTINGENCY.false p c.unit_run-walked.ensures x c.requires.line_room; small_residual = rw (x, p) (residual_small _ _ h.rule (pools_small _ h.rule)) }

pub returns : goal.returns
returns c = rest_done _ _ _ _ _ _ c.if-r-eq-CONTINGENCY.false c.pools_of-p.ensures c.unit_run-walked.ensures c.residual_of-x.ensures c.emit_rest-end.ensures
