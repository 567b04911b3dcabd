-- `verdict::locks` meets its contract. Checks 1 to 9 decide, and then date, interval and run. Assumes nothing.
use Rattle.verdict.proofs.InTurn.{header_room, unsound_locks, sound_locks}
use Rattle.verdict.proofs.locks.Goals as goal

pub header_of-l-requires : goal.header_of-l-requires
header_of-l-requires c = header_room _ c.soundness.ensures c.in-Ok.is

pub returns-in-Ok : goal.returns-in-Ok
returns-in-Ok c = sound_locks _ _ c.soundness.ensures c.in-Ok.is c.header_of-l.ensures

pub returns-in-Err : goal.returns-in-Err
returns-in-Err c = unsound_locks _ _ c.soundness.ensures c.in-Err.is
