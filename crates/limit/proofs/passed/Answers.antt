-- `limit::passed` meets its contract. The constraints, and then the contracts. Assumes nothing.
use Rattle.limit.specs.Inner.Limits.{book_over}
use Rattle.limit.proofs.passed.Goals as goal

pub returns : goal.returns
unfolding book_over
returns c = rw (c.constraints-2.ensures, c.contracts-2.ensures, c.constraints.ensures.bytes, c.contracts.ensures.bytes)
