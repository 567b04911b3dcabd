-- `market::Region::count_in` meets its contract: as many bits are set as the mask has regions. Assumes nothing.
use native.Mathlib.Omega.{arith}
use Rattle.market.proofs.Walk.{ones_are_regions}
use Rattle.market.proofs.Region.count_in.Goals as goal

pub returns : goal.returns
returns c = ones_are_regions c.args.mask (omega arith)
