-- Each way in which a call on a statement ends, and what a statement's bytes have room for. Assumes nothing.
use Prim.Native.Nat.{ℕ, ◌+◌, ◌*◌, ◌≤◌, ◌<◌}
use mathlib.Core.Path.{◌≡◌, sym, ◌∙◌}
use mathlib.Core.List.{List}
use mathlib.Core.Bool.{Bool, true, false}
use lib.ListN.{length}
use native.Mathlib.Omega.{arith}
use borrow.Author.Tests.{le-leb, lt-leb}
use Rattle.std.specs.Prelude.{Ok}
use Rattle.ground.specs.Put.{put}
use Rattle.sections.specs.Refusal.{refused}
use Rattle.statement.specs.Lent.{gives, Lent}
use Rattle.statement.specs.declared.Heading.{Heading}
use Rattle.statement.specs.declared.Line.{Line}
use Rattle.statement.proofs.Lent.{lent_refused, lent_short, lent_written}
use Rattle.parsing.specs.Parsing.{heading_at, line_at, is_statement}
use Rattle.reading.specs.Calls.{heading_read, line_read, if_statement}
use Rattle.parsing.proofs.Whole.{headed_long, statement_long, statement_headed}

module _ (s : List ℕ) {b : Bool} (e : b ≡ is_statement s) where
  -- 14
  pub no_heading : b ≡ false → refused 14 0 ≡ heading_read s
  unfolding heading_read
  no_heading t = rw (← e, t)

  pub no_line : (i : ℕ) → b ≡ false → refused 14 0 ≡ line_read s i
  unfolding line_read
  no_line i t = rw (← e, t)

  module _ (t : b ≡ true) where
    holds : is_statement s ≡ true
    holds = sym e ∙ t

    pub header_lies : 24 ≤ length s
    header_lies = statement_long s holds

    all_lie : 24 + (heading_at s).lines * 24 ≤ length s
    all_lie = headed_long s (statement_headed s holds)

    pub heading_given : (h : Heading) → h ≡ heading_at s → Ok h ≡ heading_read s
    unfolding heading_read
    heading_given h g = rw (← e, t, ← g)

    module _ (h : Heading) (g : h ≡ heading_at s) (i : ℕ) where
      -- 15
      pub past_end : h.lines ≤ i → refused 15 0 ≡ line_read s i
      unfolding line_read
      past_end l = rw (← e, t, ← g, le-leb h.lines i l)

      pub line_lies : i < h.lines → 24 + (i + 1) * 24 ≤ length s
      line_lies l = let a : 24 + h.lines * 24 ≤ length s = rw g all_lie in omega arith

      pub line_given : (x : Line) → i < h.lines → x ≡ line_at s i → Ok x ≡ line_read s i
      unfolding line_read
      line_given x l q = rw (← e, t, ← g, lt-leb h.lines i l, ← q)

-- a call that writes xs of a statement
module _ (s xs : List ℕ) {b : Bool} (e : b ≡ is_statement s) where
  -- 14
  pub not_written : (l : List ℕ) → b ≡ false → Lent (if_statement s xs) l (refused 14 0) l
  not_written l t = lent_refused 14 0 (if_statement s xs) l (rw (← e, t))

  module _ (t : b ≡ true) where
    given : if_statement s xs ≡ gives xs
    given = rw (← e, t)

    -- 13
    pub no_room : (l : List ℕ) → length l < length xs → Lent (if_statement s xs) l (refused 13 0) l
    no_room l h = lent_short (if_statement s xs) xs given l h

    pub all_written : (l : List ℕ) (n : ℕ) {a : List ℕ} → n ≡ length xs → length xs ≤ length l → a ≡ put l 0 xs → Lent (if_statement s xs) l (Ok n) a
    all_written l n = lent_written (if_statement s xs) xs given l n
