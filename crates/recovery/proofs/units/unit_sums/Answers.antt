-- `recovery::units::unit_sums` meets its contract. Each call adds a row, and before each one the sums are small enough for it. Assumes nothing.
use Rattle.std.proofs.Common.{rules}
use Rattle.recovery.proofs.UnitTurns.{sums_room, sums_made}
use Rattle.recovery.proofs.units.unit_sums.Goals as goal

pub over_rows-requires-clause-adds : goal.over_rows-requires-clause-adds
over_rows-requires-clause-adds c u x l made =
    let room = sums_room _ _ _ c.requires.walked c.args.kind c.args.pool c.requires.m_in_bounds.1 (λ t q y p. search rules) u x l made in
    let rule = room.0 in
    let few = room.1 in
    search rules

pub returns : goal.returns
returns c = sums_made _ _ _ c.requires.walked c.args.kind c.args.pool c.requires.m_in_bounds.1 (λ t q y p. search rules) _ (omega native.Mathlib.Omega.arith) c.over_rows.ensures
