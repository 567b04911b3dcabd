-- `recovery::units::unit_cut` meets its contract. Each call adds what is cut off a row, and before each one the sum is small enough for it. Assumes nothing.
use Rattle.std.proofs.Common.{rules}
use mir.Syntax.{w64}
use mir.Facts.{to_z-of_z}
use borrow.Author.Rules.{sfits_of}
use Rattle.recovery.proofs.UnitTurns.{cuts_room, cuts_made}
use Rattle.recovery.proofs.units.unit_cut.Goals as goal

pub over_rows-requires-clause-adds : goal.over_rows-requires-clause-adds
over_rows-requires-clause-adds c u x l made =
    let room = cuts_room _ _ _ c.requires.walked c.args.kind c.args.pool (λ t q y p. search rules) u x l made in
    let rule = room.0 in
    let small = room.1 in
    search rules

pub returns : goal.returns
returns c = rw (to_z-of_z {w = w64} (sfits_of c.over_rows.type_inv))
    (cuts_made _ _ _ c.requires.walked c.args.kind c.args.pool (λ t q y p. search rules) _ (omega native.Mathlib.Omega.arith) c.over_rows.ensures)
