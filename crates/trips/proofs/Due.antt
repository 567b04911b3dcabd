-- What is said of a book's lines before check 12 has judged their amounts. Assumes nothing.
use Prim.Native.Nat.{ℕ, ◌<◌, ◌^◌}
use mathlib.Core.Path.{◌≡◌}
use mathlib.Core.Bool.{false}
use Rattle.book.specs.Book.{Book}
use Rattle.statement.specs.declared.Line.{Line}
use Rattle.parsing.specs.Inner.Writable.{WritableLine}
use Rattle.lines.specs.Limit.{passes_limit}

-- a line that is written and read back where its amount keeps the limit of 12
pub record Due (l : Line) : Type 0 where
  pub written : passes_limit l ≡ false → WritableLine l

-- the numbers that a book's records hand on to lines fit 32 bits: constraint, unit and contract ids
pub record Narrow (B : Book) : Type 0 where
  pub constraints : (j : ℕ) → (B.constraint j).id < 2 ^ 32
  pub units : (u : ℕ) → (B.unit u).unit < 2 ^ 32
  pub contracts : (k : ℕ) → (B.contract k).id < 2 ^ 32
