-- `calendar::days_in` meets its contract. The tests decide the case. Assumes nothing.
use mathlib.Core.Path.{sym, ◌∙◌}
use borrow.Author.Tests.{eq-eqb, ne_eqb}
use Rattle.calendar.specs.Calendar.{days_in}
use Rattle.calendar.proofs.days_in.Goals as goal

pub returns-then-leap_year : goal.returns-then-leap_year
unfolding days_in
returns-then-leap_year c = rw (eq-eqb _ _ c.if-month-eq2.true, sym c.leap_year.ensures ∙ c.if-leap_year.true)

pub returns-else-leap_year : goal.returns-else-leap_year
unfolding days_in
returns-else-leap_year c = rw (eq-eqb _ _ c.if-month-eq2.true, sym c.leap_year.ensures ∙ c.if-leap_year.false)

pub returns-then-thirty_days : goal.returns-then-thirty_days
unfolding days_in
returns-then-thirty_days c = rw (ne_eqb _ _ c.if-month-eq2.false, sym c.thirty_days.ensures ∙ c.if-thirty_days.true)

pub returns-else-thirty_days : goal.returns-else-thirty_days
unfolding days_in
returns-else-thirty_days c = rw (ne_eqb _ _ c.if-month-eq2.false, sym c.thirty_days.ensures ∙ c.if-thirty_days.false)
