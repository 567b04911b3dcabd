-- `decimal::width` meets its contract: one more than the greatest power of 10 that x reaches. Assumes nothing.
use Rattle.decimal.proofs.Spelling.{digits_by_power}
use Rattle.decimal.proofs.width.Goals as goal

pub returns : goal.returns
returns c = digits_by_power _ _ _ c.max.ensures c.ilog10.ensures.power_le c.ilog10.ensures.next_power_gt
