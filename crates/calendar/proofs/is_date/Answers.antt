-- `calendar::is_date` meets its contract. The tests are those of the definition. Assumes nothing.
use Rattle.calendar.specs.Calendar.{is_date}
use Rattle.calendar.proofs.is_date.Goals as goal

pub returns : goal.returns
unfolding is_date
returns c = rw c.days_in.ensures
