-- `census::unit_account` meets its contract. The account stands third in a unit row. Assumes nothing.
use Rattle.records.specs.Rows.{unit_row}
use Rattle.census.proofs.unit_account.Goals as goal

pub returns : goal.returns
unfolding unit_row
returns c = c.u32_at.ensures
