-- `sharing::shares::energy_in` meets its contract. The bit of the row's region, 1 or 0, times its energy. Assumes nothing.
use Rattle.sharing.proofs.Groups.{energy_product}
use Rattle.sharing.proofs.shares.energy_in.Goals as goal

pub returns : goal.returns
returns c = energy_product _ _ c.of.ensures c.is_in.ensures c.row_by.ensures
