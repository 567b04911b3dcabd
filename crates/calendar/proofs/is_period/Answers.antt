-- `calendar::is_period` meets its contract. The tests are those of the definition. Assumes nothing.
use Rattle.calendar.specs.Calendar.{is_period}
use Rattle.calendar.proofs.is_period.Goals as goal

pub returns : goal.returns
unfolding is_period
returns c = rw c.is_date.ensures
