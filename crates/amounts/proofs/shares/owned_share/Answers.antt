-- `amounts::shares::owned_share` meets its contract. A share of nothing is 0, and nothing is cut off it. Assumes nothing.
use Rattle.numbers.proofs.Rounding.{nothing_rounds}
use Rattle.amounts.proofs.shares.owned_share.Goals as goal

pub returns-then-own-eq0 : goal.returns-then-own-eq0
returns-then-own-eq0 c = nothing_rounds c.args.pool c.args.total c.if-own-eq0.true
