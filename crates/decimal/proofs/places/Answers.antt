-- `decimal::places` meets its contract: all digits of x where there are more than decimals, else the decimals and one 0. Assumes nothing.
use Rattle.decimal.proofs.Writing.{places_are}
use Rattle.decimal.proofs.places.Goals as goal

pub returns : goal.returns
returns c = places_are _ _ _ c.width.ensures c.max.ensures
