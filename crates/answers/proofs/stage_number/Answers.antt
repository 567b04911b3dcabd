-- `answers::stage_number` meets its contract. The stage decides. Assumes nothing.
use Rattle.answers.specs.Answers.{stage_number}
use Rattle.answers.proofs.stage_number.Goals as goal

pub returns-in-Line : goal.returns-in-Line
unfolding stage_number
returns-in-Line c = rw c.in-Line.is

pub returns-in-Pool : goal.returns-in-Pool
unfolding stage_number
returns-in-Pool c = rw c.in-Pool.is

pub returns-in-Unit : goal.returns-in-Unit
unfolding stage_number
returns-in-Unit c = rw c.in-Unit.is

pub returns-in-Residual : goal.returns-in-Residual
unfolding stage_number
returns-in-Residual c = rw c.in-Residual.is

pub returns-in-Share : goal.returns-in-Share
unfolding stage_number
returns-in-Share c = rw c.in-Share.is

pub returns-in-Whole : goal.returns-in-Whole
unfolding stage_number
returns-in-Whole c = rw c.in-Whole.is

pub returns-in-Half : goal.returns-in-Half
unfolding stage_number
returns-in-Half c = rw c.in-Half.is

pub returns-in-Ace : goal.returns-in-Ace
unfolding stage_number
returns-in-Ace c = rw c.in-Ace.is

pub returns-in-Asoe : goal.returns-in-Asoe
unfolding stage_number
returns-in-Asoe c = rw c.in-Asoe.is
