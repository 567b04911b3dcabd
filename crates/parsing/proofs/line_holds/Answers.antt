-- `parsing::line_holds` meets its contract. The tests are those of the definition. Assumes nothing.
use Rattle.parsing.specs.Parsing.{line_holds}
use Rattle.parsing.proofs.line_holds.Goals as goal

pub returns : goal.returns
unfolding line_holds
returns c = rw (c.line_ok.ensures, c.line_at.ensures, c.spare_clear.ensures)
