-- 02, Req 06: "Finance asks why a balance isn't nil." The answer is exact: amount plus sum is, to the last fraction, what the roundings of the pool cut
-- off. r is what the balance call answers for a pool, and c what the cut-off call answers for each number of a stage of it.
use Rattle.std.specs.Prelude.{ℕ, ◌<◌, ◌≡◌, List, pos, ◌+ℤ◌, ◌*ℤ◌}
use Rattle.book.specs.Book.{book_of}
use Rattle.book.specs.Table.{locked_for}
use Rattle.accounts.specs.Account.{public_of}
use Rattle.balance.specs.Pools.{Pool, found, pools_in, pool_at}
use Rattle.balance.specs.Balance.{balance_of}
use Rattle.cutoffs.specs.Cutoffs.{stages_in, stage_at}
use Rattle.cutoffs.specs.declared.Cut.{Cut}
use Rattle.closing.specs.Explained.{said_by}
use Rattle.answers.specs.Answers.{pool_answer, cut_answer}
use Rattle.answers.specs.declared.PoolAnswer.{PoolAnswer}
use Rattle.answers.specs.declared.CutAnswer.{CutAnswer}
use Rattle.demands.specs.Demand1.{CutoffCall}

-- the stages of a pool, with these bytes lent as the locked book
abbrev pub stages_of : List ℕ → List ℕ → Pool → List Cut
stages_of b locked p = stages_in (book_of b) (book_of (locked_for b locked)) p

pub record BalanceExplained (b locked : List ℕ) (number : ℕ) (r : PoolAnswer) (c : ℕ → CutAnswer) : Type 0 where
  pub pool : Pool
  pub there : pool_at (pools_in (public_of (book_of b))) number ≡ found pool
  -- the cut-off call names each stage of the pool, and nothing past the last
  pub named : (index : ℕ) → c index ≡ cut_answer (stage_at (stages_of b locked pool) index)
  -- amount plus sum is the fraction that they make: both sides multiplied out
  pub exact : (r.amount +ℤ r.sum) *ℤ pos (said_by (stages_of b locked pool)).under ≡ (said_by (stages_of b locked pool)).over
  pub above : 0 < (said_by (stages_of b locked pool)).under

pub record EveryBalanceIsExplained : Type 0 where
  pub balance : (b locked : List ℕ) (number : ℕ) (r : PoolAnswer) (c : ℕ → CutAnswer) → r ≡ pool_answer (balance_of b locked number)
      → ((index : ℕ) → CutoffCall b locked number index (c index)) → r.refusal ≡ 0 → BalanceExplained b locked number r c
  -- and what is no balance has no stages: both calls refuse by one number, at one place
  pub refused : (b locked : List ℕ) (number : ℕ) (r : PoolAnswer) (c : ℕ → CutAnswer) → r ≡ pool_answer (balance_of b locked number)
      → ((index : ℕ) → CutoffCall b locked number index (c index)) → (r.refusal ≡ 0 → ⊥)
      → (index : ℕ) → ((c index).refusal ≡ r.refusal) × ((c index).place ≡ r.place)
