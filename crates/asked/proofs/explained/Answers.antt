-- `asked::explained` meets its contract. Every balance is explained, of what the two calls promise. Assumes nothing.
use Rattle.demands.proofs.Explained.{balances_are_explained}
use Rattle.asked.proofs.explained.Goals as goal

pub returns : goal.returns
returns c cut d z = balances_are_explained.balance _ _ _ _ cut c.fervolatro_balance.ensures d z
