-- An answer by number and what stands in the list say the same; and no second answer fits a search in a constraint's lines. Assumes nothing.
use Prim.Native.Nat.{ℕ}
use mathlib.Core.Path.{◌≡◌, refl, sym, ap, ap₂, ◌∙◌}
use mathlib.Core.List.{List}
use Rattle.std.specs.Prelude.{Result, Ok, Err}
use Rattle.ground.specs.Nth.{Nth, found, past, nth}
use Rattle.sections.proofs.Cases.{zero_one}
use Rattle.sections.proofs.Walk.{past_once}
use Rattle.records.specs.declared.rows.Constraint.{Constraint}
use Rattle.records.specs.declared.rows.UnitRow.{UnitRow}
use Rattle.factors.specs.Naming.{key_of}
use Rattle.statement.specs.declared.Line.{Line}
use Rattle.lookup.specs.ByNumber.{answer_of, numbered_in}
use Rattle.lookup.specs.Inner.Sought.{SoughtIn}
use Rattle.lookup.specs.declared.constraint.Passed.{Passed}

-- ---- one answer, one element

abbrev element_of : Result Line ℕ → Nth Line
element_of (Ok l) = found l
element_of (Err left) = past left

back : (n : Nth Line) → element_of (answer_of n) ≡ n
unfolding answer_of
back (found l) = refl
back (past left) = refl

module _ (ls : List Line) (number : ℕ) where
  pub line_told : {l : Line} → nth ls number ≡ found l → Ok l ≡ numbered_in ls number
  unfolding numbered_in answer_of
  line_told e = rw e

  pub past_told : {left : ℕ} → nth ls number ≡ past left → Err left ≡ numbered_in ls number
  unfolding numbered_in answer_of
  past_told e = rw e

  module _ {x : Result Line ℕ} (h : x ≡ numbered_in ls number) where
    there : nth ls number ≡ element_of x
    unfolding numbered_in
    there = sym (back (nth ls number)) ∙ ap element_of (sym h)

    pub line_there : {l : Line} → x ≡ Ok l → nth ls number ≡ found l
    line_there e = there ∙ ap element_of e

    pub past_there : {left : ℕ} → x ≡ Err left → nth ls number ≡ past left
    past_there e = there ∙ ap element_of e

-- ---- no second answer

module _ (unit : ℕ → UnitRow) (m : ℕ) (r : Constraint) (ls : List Line) (number : ℕ) where
  pub answered_once : (x y : Result Line Passed) → SoughtIn unit m r ls number x → SoughtIn unit m r ls number y → x ≡ y
  unfolding SoughtIn
  answered_once (Ok l) (Ok k) p q = let e : found l ≡ found k = sym p ∙ q in cc
  answered_once (Ok l) (Err x) p q = let e : found l ≡ past x.left = sym p ∙ q.1 in absurd (zero_one cc)
  answered_once (Err x) (Ok l) p q = let e : past x.left ≡ found l = sym p.1 ∙ q in absurd (zero_one cc)
  answered_once (Err x) (Err y) p q =
      let e : ◌≡◌ {A = Nth Line} (past x.left) (past y.left) = sym p.1 ∙ q.1 in
      ap₂ (λ (row left : ℕ). Err (record { row = row; left = left })) (past_once (key_of unit) m r.id x.row y.row p.0 q.0) cc
