-- The two books of a request that all checks accept, each with its header.
use Rattle.std.specs.Prelude.{ℕ, List, ◌≡◌, Result, Ok, Err}
use Rattle.sections.specs.declared.Refusal.{Refusal}
use Rattle.sections.specs.Refusal.{unrefused}
use Rattle.book.specs.Header.{header_of}
use Rattle.book.specs.Table.{locked_for, verdict}
use Rattle.verdict.specs.declared.BothBooks.{BothBooks}

-- b is the book, l what was lent as the locked one, and the second book is the one that test payments are settled by
pub record BothOf (b l : List ℕ) (a : BothBooks) : Type 0 where
  pub unrefused : verdict b l ≡ unrefused
  pub book : a.book.bytes.now ≡ b
  pub header : a.book.header ≡ header_of b
  pub second : a.second.bytes.now ≡ locked_for b l
  pub second_header : a.second.header ≡ header_of (locked_for b l)

-- both books, or the refusal that the verdict is
abbrev pub AcceptedIs : List ℕ → List ℕ → Result BothBooks Refusal → Type 0
AcceptedIs b l (Ok a) = BothOf b l a
AcceptedIs b l (Err e) = verdict b l ≡ Err e
