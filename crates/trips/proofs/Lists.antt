-- Every line of an account in an accepted book keeps the rules of a line, and where none passes the limit all are read back.
-- Assumes nothing.
use Prim.Native.Nat.{ℕ, ◌^◌, ◌≤◌, ◌<◌}
use mathlib.Core.Path.{◌≡◌}
use mathlib.Core.Bool.{Bool, true, false, ◌||◌}
use mathlib.Core.List.{List, [], ◌∷◌}
use lib.Dec.{eqb}
use Rattle.ground.specs.Inner.Each.{Each}
use Rattle.ground.proofs.Each.{each_choice}
use Rattle.rules.specs.Rules.{factor_of}
use Rattle.rules.specs.Inner.Facts.{ConstraintRule}
use Rattle.records.specs.declared.rows.Constraint.{Constraint}
use Rattle.records.specs.declared.rows.UnitRow.{UnitRow}
use Rattle.book.specs.Book.{Book}
use Rattle.book.specs.Inner.Accepted.{Sound}
use Rattle.accounts.specs.declared.energies.OwnEnergies.{OwnEnergies}
use Rattle.amounts.specs.Pools.{halves_of}
use Rattle.amounts.specs.declared.pools.Pools.{Pools}
use Rattle.amounts.specs.declared.pools.Residual.{Residual}
use Rattle.statement.specs.declared.Line.{Line}
use Rattle.parsing.specs.Inner.Writable.{WritableLine}
use Rattle.lines.specs.Lines.{unit_lines, rest_lines}
use Rattle.lines.specs.Limit.{passes_limit, any_over}
use Rattle.lines.specs.Inner.Walks.{book_lines}
use Rattle.lines.proofs.EachLine.{EachKind, each_line}
use Rattle.trips.proofs.Due.{Due, Narrow}
use Rattle.trips.proofs.Lines.{contingency_due, fpp_rest_due, used_rest_due, unused_rest_due, fpp_due, used_due, unused_due, ace_due, asoe_due}

-- ---- a constraint

module _ (r : Constraint) (h : ConstraintRule r) (f : r.id < 2 ^ 32) where
  unit_due : (p : Pools) (q : UnitRow) → 1 ≤ q.unit → q.unit < 2 ^ 32 → Each Due (unit_lines r p q)
  unfolding unit_lines
  unit_due p q u g =
      each_choice Due (eqb r.mode 1) _ _
      (fpp_due r h f p q u g, (used_due r h f p q u g, (unused_due r h f p q u g, tt)))
      (unused_due r h f p q u g, tt)

  rest_due : (x : Residual) (te ate : ℕ) → Each Due (rest_lines r x te ate)
  unfolding rest_lines
  rest_due x te ate =
      each_choice Due (eqb r.mode 1) _ _
      (fpp_rest_due r h f x te ate, (used_rest_due r h f x te ate, (unused_rest_due r h f x te ate, tt)))
      (unused_rest_due r h f x te ate, tt)

-- ---- the whole book

-- whatever energies its contracts are settled by
module _ (B L : Book) (p : Sound B) (n : Narrow B) (own : OwnEnergies) where
  kinds_due : EachKind Due B L own
  kinds_due =
      record {
        contingency = λ j l. contingency_due (B.constraint j) (p.fields.constraints j l) (n.constraints j) _ _;
        units = λ j l u m. unit_due (B.constraint j) (p.fields.constraints j l) (n.constraints j) _ (B.unit u) (p.fields.units u m).unit (n.units u);
        rest = λ j l. rest_due (B.constraint j) (p.fields.constraints j l) (n.constraints j) _ _ _;
        region = λ k l g m d. (
          ace_due (B.contract k).id (p.fields.contracts k l).id (n.contracts k) g m (halves_of (B.contract k).payment (factor_of (B.contract k).factors g)) _ _,
          (asoe_due (B.contract k).id (p.fields.contracts k l).id (n.contracts k) g m (halves_of (B.contract k).payment (factor_of (B.contract k).factors g)) _ _, tt),
        );
      }

  pub book_due : (account : ℕ) → Each Due (book_lines B L account own)
  book_due account = each_line Due B L own kinds_due account

-- ---- under the limit

neither : (a b : Bool) → (a || b) ≡ false → (a ≡ false) × (b ≡ false)
neither true b e = ((cc), (cc))
neither false b e = ((cc), e)

pub due_written : (ls : List Line) → Each Due ls → any_over ls ≡ false → Each WritableLine ls
unfolding any_over
due_written [] d e = tt
due_written (l ∷ ls) d e = let n = neither (passes_limit l) (any_over ls) e in (d.0.written n.0, due_written ls d.1 n.1)
