-- Whether the checks of the unit rows beside the constraints pass, which is what the pass answers. 01, Refusals, has the checks.
use Rattle.std.specs.Prelude.{ℕ, Bool, ◌&&◌}
use Rattle.sections.specs.Order.{rises_by}
use Rattle.sections.specs.Search.{all}
use Rattle.rules.specs.Rules.{unit_ok, unit_below}
use Rattle.records.specs.declared.rows.Constraint.{Constraint}
use Rattle.records.specs.declared.rows.UnitRow.{UnitRow}
use Rattle.factors.specs.Naming.{named_at}
use Rattle.factors.specs.Factors.{factors_at}

-- none of the m unit rows is refused by 5, "a field outside the rules above", 6, "(constraint, unit) pairs .. not strictly rising", or
-- 7, "a unit row names no constraint here, or one of mode 0", and none of the n constraints by 8, "factor sums fail"
unfoldable pub units_hold : (ℕ → Constraint) → ℕ → (ℕ → UnitRow) → ℕ → Bool
units_hold con n unit m =
    all (λ u. unit_ok (unit u)) m
    && all (rises_by unit_below unit) m
    && all (named_at con n unit) m
    && all (factors_at unit m con) n
