-- Every balance of an accepted book is explained: amount plus sum is what the roundings of the pool cut off, as its stages name it; and each stage on
-- its own is exact. 02, Req 06: "Finance asks why a balance isn't nil." Assumes nothing.
use Prim.Native.Nat.{ℕ, ◌<◌}
use mathlib.Core.Path.{◌≡◌}
use mathlib.Core.List.{List}
use Rattle.sections.specs.Refusal.{unrefused}
use Rattle.rules.specs.Rules.{factor_of}
use Rattle.locking.specs.Locking.{settled_by, pick}
use Rattle.book.specs.Book.{book_of}
use Rattle.book.specs.Table.{locked_for, verdict}
use Rattle.book.proofs.Promise.{accepted}
use Rattle.accounts.specs.Account.{public_of}
use Rattle.balance.specs.Pools.{Pool, pools_in, found, pool_at}
use Rattle.balance.specs.Balance.{accounts_of}
use Rattle.closing.specs.Explained.{Explained, PoolsExact, RegionExact}
use Rattle.closing.proofs.Sides.{one_sided}
use Rattle.closing.proofs.Pools.{pools_accounted}
use Rattle.closing.proofs.Exact.{pools_exact, region_exact}

-- l is lent as the locked book
module _ (b l : List ℕ) (v : verdict b l ≡ unrefused) where
  -- of every pool
  pub every_balance_is_explained : (number : ℕ) (p : Pool) → pool_at (pools_in (public_of (book_of b))) number ≡ found p → Explained (book_of b) (book_of (locked_for b l)) p
  every_balance_is_explained number p e = (pools_accounted (accepted b l v).promise (one_sided b) number p e).explained

  -- the pools of a factored constraint
  pub every_pool_is_exact : (j : ℕ) → j < (book_of b).header.constraints → ((book_of b).constraint j).mode ≡ 1 → PoolsExact ((book_of b).constraint j)
  every_pool_is_exact = pools_exact (accepted b l v).promise

  -- a contract, in each region that it benefits
  pub every_region_is_exact : (i : ℕ) → i < (book_of b).header.contracts → (g : ℕ) → g < 5 → (factor_of ((book_of b).contract i).factors g ≡ 0 → ⊥)
      → RegionExact (pick (settled_by ((book_of b).contract i)) (book_of b) (book_of (locked_for b l))) (accounts_of (book_of b) (book_of (locked_for b l))) ((book_of b).contract i) g
  every_region_is_exact = region_exact (accepted b l v).promise
