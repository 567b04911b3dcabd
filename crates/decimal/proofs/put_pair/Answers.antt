-- `decimal::put_pair` meets its contract: the number's two bytes are the digits. Assumes nothing.
use mathlib.Core.Path.{refl}
use Rattle.decimal.proofs.Writing.{wrote_pair}
use Rattle.decimal.proofs.put_pair.Goals as goal

pub returns : goal.returns
returns c = wrote_pair c.args.text.now c.args.at c.args.x c.requires.1 refl c.put_u16.ensures
