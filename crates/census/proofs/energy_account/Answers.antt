-- `census::energy_account` meets its contract. The account stands first in an energy row. Assumes nothing.
use Rattle.records.specs.Rows.{energy_row}
use Rattle.census.proofs.energy_account.Goals as goal

pub returns : goal.returns
unfolding energy_row
returns c = c.u32_at.ensures
