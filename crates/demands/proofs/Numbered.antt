-- Line i of the lines that stand in bytes is what stands at its place, and there is none past the end. Assumes nothing.
use Rattle.std.specs.Prelude.{Ok}
use Rattle.sections.specs.Refusal.{refused}
use Prim.Native.Nat.{ℕ, zero, suc, ◌≤◌, ◌<◌}
use mathlib.Core.Path.{◌≡◌, refl, sym, ap, ◌∙◌}
use mathlib.Core.Bool.{Bool, true, false, cond}
use mathlib.Core.List.{List, [], ◌∷◌, ◌++◌}
use native.Mathlib.Omega.{arith}
use borrow.Author.Tests.{leb-true, leb-false, ltb-true, ltb-false}
use lib.Dec.{leb, ltb}
use lib.ListN.{length}
use Rattle.statement.specs.declared.Line.{Line}
use Rattle.parsing.specs.Parsing.{line_at, lines_in}
use Rattle.parsing.proofs.Laid.{lines_count}
use Rattle.demands.specs.Demand2.{numbered}

-- past the end
past_end : (ls : List Line) (i : ℕ) → length ls ≤ i → numbered ls i ≡ refused 15 0
unfolding numbered
past_end [] i h = refl
past_end (l ∷ ls) zero h = absurd (omega arith)
past_end (l ∷ ls) (suc i) h = past_end ls i (omega arith)

-- a line of the first of two lists, and the first of the second
in_front : (xs ys : List Line) (i : ℕ) → i < length xs → numbered (xs ++ ys) i ≡ numbered xs i
unfolding numbered
in_front [] ys i h = absurd (omega arith)
in_front (x ∷ xs) ys zero h = refl
in_front (x ∷ xs) ys (suc i) h = in_front xs ys i (omega arith)

just_behind : (xs : List Line) (l : Line) → numbered (xs ++ (l ∷ [])) (length xs) ≡ Ok l
unfolding numbered
just_behind [] l = refl
just_behind (x ∷ xs) l = just_behind xs l

module _ (s : List ℕ) where
  there : (n i : ℕ) → i < n → numbered (lines_in s n) i ≡ Ok (line_at s i)
  unfolding lines_in
  there zero i h = absurd (omega arith)
  there (suc n) i h = by (ltb i n) refl (there n i)
    where
      by : (t : Bool) → ltb i n ≡ t → (i < n → numbered (lines_in s n) i ≡ Ok (line_at s i)) → numbered (lines_in s n ++ (line_at s n ∷ [])) i ≡ Ok (line_at s i)
      by true t earlier = in_front (lines_in s n) (line_at s n ∷ []) i (omega (arith, lines_count s n, ltb-true i n t)) ∙ earlier (ltb-true i n t)
      by false t earlier =
          let same : i ≡ n = omega (arith, ltb-false i n t) in
          rw same (ap (numbered (lines_in s n ++ (line_at s n ∷ []))) (sym (lines_count s n)) ∙ just_behind (lines_in s n) (line_at s n))

  pub line_numbered : (n i : ℕ) → cond (leb n i) (refused 15 0) (Ok (line_at s i)) ≡ numbered (lines_in s n) i
  line_numbered n i = by (leb n i) refl
    where
      by : (t : Bool) → leb n i ≡ t → cond t (refused 15 0) (Ok (line_at s i)) ≡ numbered (lines_in s n) i
      by true t = sym (past_end (lines_in s n) i (omega (arith, lines_count s n, leb-true n i t)))
      by false t = sym (there n i (leb-false n i t))
