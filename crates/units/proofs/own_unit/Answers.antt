-- `units::own_unit` meets its contract. The account owns the row, or nothing is emitted. Assumes nothing.
use Rattle.units.proofs.UnitRuns.{own_skip, own_room, own_out}
use Rattle.units.proofs.own_unit.Goals as goal

pub returns-then-q-account : goal.returns-then-q-account
returns-then-q-account c = own_skip _ _ _ _ c.if-q-account.true

pub emit_unit-requires-clause-line_room : goal.emit_unit-requires-clause-line_room
emit_unit-requires-clause-line_room c = own_room _ _ _ _ c.if-q-account.false c.requires.line_room

pub returns : goal.returns
returns c = own_out _ _ _ _ c.if-q-account.false c.emit_unit.ensures
