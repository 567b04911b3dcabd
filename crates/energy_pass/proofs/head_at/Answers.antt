-- `energy_pass::head_at` meets its contract: the region is the lowest of the four bytes. Assumes nothing.
use Rattle.energy_pass.proofs.Rows.{head_is}
use Rattle.energy_pass.proofs.head_at.Goals as goal

pub returns : goal.returns
returns c = head_is _ _ c.u32_at.ensures
