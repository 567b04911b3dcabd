-- `settlement::measure` meets its contract. Whether an energy row names the account is known where its energy is read. Assumes nothing.
use Rattle.settlement.proofs.measure.Goals as goal

pub held_by-held-requires : goal.held_by-held-requires
held_by-held-requires c = c.requires.sound

pub sized-requires : goal.sized-requires
sized-requires c = record { promise = c.requires; held_value = c.held_by-held.ensures.any }
