-- `decimal::put_whole` meets its contract. The digits are the last ones, as many as there are. Assumes nothing.
use Rattle.decimal.proofs.Writing.{wrote_whole}
use Rattle.decimal.proofs.put_whole.Goals as goal

pub returns : goal.returns
returns c = wrote_whole _ c.width-n.ensures c.put_last.ensures
