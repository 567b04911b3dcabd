-- `asked::unread` meets its contract. Where no test payment stands, nothing rests on the locked book. Assumes nothing.
use Rattle.demands.proofs.Unread.{locked_only_where_read}
use Rattle.asked.proofs.unread.Goals as goal

pub returns : goal.returns
returns c = let first = c.fervolatro_statement-first.ensures in
    let second = c.fervolatro_statement-second.ensures in
    λ none equal. locked_only_where_read.statement _ _ _ none _ _ _ _ _ _ first (rw (← equal) at second)
