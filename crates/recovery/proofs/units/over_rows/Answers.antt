-- `recovery::units::over_rows` meets its contract. The invariant, `Running`: of each of the constraint's rows so far a call was made. Assumes nothing.
use mathlib.Core.Path.{sym, ◌∙◌}
use native.Mathlib.Omega.{arith}
use Rattle.records.specs.Rows.{unit_row}
use Rattle.sections.proofs.Walk.{run_over, run_done}
use Rattle.recovery.proofs.UnitTurns.{running_start, row_at, row_calls, running_more, running_end}
use Rattle.recovery.proofs.units.over_rows.Goals as goal

pub first_from-u-requires : goal.first_from-u-requires
unfolding unit_row
first_from-u-requires g c = record { size_in_bounds = omega arith; keeps = c.requires.walked.keep }

pub loop-u-init : goal.loop-u-init
unfolding unit_row
loop-u-init g c = running_start (unit_row c.args.units.now) _ _ _ _ _ c.first_from-u.ensures

pub unit_row-requires : goal.unit_row-requires
unfolding unit_row
unit_row-requires g c = omega (arith, (row_at (unit_row c.args.units.now) _ _ _ _ _ c.loop-u.invariant c.has_key.ensures c.if-not-has_key.false).0)

pub add-made-requires : goal.add-made-requires
unfolding unit_row
add-made-requires g c = row_calls (unit_row c.args.units.now) _ _ _ _ _ c.loop-u.invariant c.has_key.ensures c.if-not-has_key.false (goal.F-pre g c.args.add) c.unit_row.ensures c.requires.adds

pub loop-u-preserved : goal.loop-u-preserved
unfolding unit_row
loop-u-preserved g c = running_more (unit_row c.args.units.now) _ _ _ _ _ c.loop-u.invariant c.has_key.ensures c.if-not-has_key.false c.unit_row.ensures c.add-made.ensures

pub returns-then-not-has_key : goal.returns-then-not-has_key
unfolding unit_row
returns-then-not-has_key g c = running_end (unit_row c.args.units.now) _ _ _ _ _ c.loop-u.invariant (run_over _ _ _ _ c.requires.walked.keep c.loop-u.invariant.run (sym c.has_key.ensures ∙ c.if-not-has_key.true))

pub returns : goal.returns
unfolding unit_row
returns g c = running_end (unit_row c.args.units.now) _ _ _ _ _ c.loop-u.invariant (run_done _ _ _ _ c.loop-u.invariant.run (omega arith))
