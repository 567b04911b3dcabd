-- Every pool of an accepted book closes: no rounding cuts off more than half of its divisor. 01, Balance: "Amount plus sum is at most half a unit of
-- money per line, and one half more for a regulation or FPP pool, or one half more per benefiting region for a contract, in size." Assumes nothing.
use Prim.Native.Nat.{ℕ, ◌+◌, ◌*◌, ◌≤◌}
use mathlib.Core.Path.{◌≡◌}
use mathlib.Core.List.{List}
use lib.IntN.{pos, nat_abs, ◌+ℤ◌}
use Rattle.sections.specs.Refusal.{unrefused}
use Rattle.book.specs.Book.{book_of}
use Rattle.book.specs.Table.{locked_for, verdict}
use Rattle.book.proofs.Promise.{accepted}
use Rattle.accounts.specs.Account.{public_of}
use Rattle.balance.specs.Pools.{Pool, pools_in, found, pool_at}
use Rattle.balance.specs.Balance.{line_count, line_sum}
use Rattle.closing.proofs.Sides.{one_sided}
use Rattle.closing.proofs.Pools.{pools_accounted}

-- l is lent as the locked book
pub every_pool_closes : (b l : List ℕ) → verdict b l ≡ unrefused → (number : ℕ) (p : Pool) → pool_at (pools_in (public_of (book_of b))) number ≡ found p
    → 2 * nat_abs (pos p.amount +ℤ line_sum (book_of b) (book_of (locked_for b l)) p) ≤ line_count (book_of b) (book_of (locked_for b l)) p + p.stages
every_pool_closes b l v number p e = (pools_accounted (accepted b l v).promise (one_sided b) number p e).small
