-- `lookup::constraint::constraint_line` meets its contract. A line of a unit row, or one of the others. Assumes nothing.
use Rattle.lookup.proofs.OneConstraint.{from_units, from_others, from_none}
use Rattle.lookup.proofs.constraint.constraint_line.Goals as goal

pub returns-in-Ok : goal.returns-in-Ok
returns-in-Ok c = from_units _ _ _ _ _ _ _ c.requires.bare c.unit_run.ensures c.in-Ok.is

pub returns-in-Ok-others : goal.returns-in-Ok-others
returns-in-Ok-others c = from_others _ _ _ _ _ _ _ c.requires.bare c.unit_run.ensures c.in-Err.is c.others.ensures c.in-Ok-others.is

pub returns-in-Err-others : goal.returns-in-Err-others
returns-in-Err-others c = from_none _ _ _ _ _ _ _ c.requires.bare c.unit_run.ensures c.in-Err.is c.others.ensures c.in-Err-others.is
