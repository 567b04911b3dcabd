-- What a header says of the bytes, and each way in which the question whether they are a statement ends. Assumes nothing.
use Prim.Native.Nat.{ℕ, ◌+◌, ◌*◌, ◌≤◌, ◌<◌}
use mathlib.Core.Path.{◌≡◌}
use mathlib.Core.List.{List, [], ◌∷◌}
use mathlib.Core.Bool.{Bool, true, false}
use lib.Dec.{eqb, leb}
use lib.ListN.{length}
use native.Mathlib.Omega.{arith}
use borrow.Author.Tests.{le-leb, lt-leb, leb-true, eqb-true}
use Rattle.ground.specs.Inner.Every.{Every}
use Rattle.ground.proofs.Every.{every}
use Rattle.sections.specs.Search.{all}
use Rattle.statement.specs.declared.Heading.{Heading}
use Rattle.parsing.specs.Parsing.{heading_at, heading_ok, statement_marked, headed, line_holds, is_statement}

-- what a header says of the bytes
module _ (s : List ℕ) (q : headed s ≡ true) where
  tests : Every (statement_marked s ∷ heading_ok (heading_at s) ∷ eqb (length s) (24 + (heading_at s).lines * 24) ∷ [])
  unfolding headed
  tests = every (statement_marked s ∷ heading_ok (heading_at s) ∷ eqb (length s) (24 + (heading_at s).lines * 24) ∷ []) q

  pub headed_marked : statement_marked s ≡ true
  headed_marked = tests.0

  pub headed_length : length s ≡ 24 + (heading_at s).lines * 24
  headed_length = eqb-true (length s) (24 + (heading_at s).lines * 24) tests.1.1.0

  pub headed_long : 24 + (heading_at s).lines * 24 ≤ length s
  headed_long = omega (arith, headed_length)

module _ (s : List ℕ) where
  -- fewer than 24 bytes
  pub too_short : length s < 24 → false ≡ is_statement s
  unfolding is_statement
  too_short l = rw (lt-leb 24 (length s) l)

  module _ (l : 24 ≤ length s) {b : Bool} (e : b ≡ headed s) where
    -- no header
    pub not_headed : b ≡ false → false ≡ is_statement s
    unfolding is_statement
    not_headed t = rw (le-leb 24 (length s) l, ← e, t)

    -- a header: the lines decide
    pub lines_decide : (h : Heading) {r : Bool} → b ≡ true → h ≡ heading_at s → r ≡ all (line_holds s) h.lines → r ≡ is_statement s
    unfolding is_statement
    lines_decide h t g d = rw (le-leb 24 (length s) l, ← e, t, ← g) d

    -- and they lie in the bytes
    pub lines_lie : (h : Heading) → b ≡ true → h ≡ heading_at s → 24 + h.lines * 24 ≤ length s
    lines_lie h t g = rw g (headed_long s (rw e at (t)))

-- what a statement has: 24 bytes, a header, lines that hold
module _ (s : List ℕ) (q : is_statement s ≡ true) where
  parts : Every (leb 24 (length s) ∷ headed s ∷ all (line_holds s) (heading_at s).lines ∷ [])
  unfolding is_statement
  parts = every (leb 24 (length s) ∷ headed s ∷ all (line_holds s) (heading_at s).lines ∷ []) q

  pub statement_long : 24 ≤ length s
  statement_long = leb-true 24 (length s) parts.0

  pub statement_headed : headed s ≡ true
  statement_headed = parts.1.0

  pub statement_lines : all (line_holds s) (heading_at s).lines ≡ true
  statement_lines = parts.1.1.0
