-- `parsing::is_headed` meets its contract. The tests are those of the definition. Assumes nothing.
use Rattle.parsing.specs.Parsing.{headed}
use Rattle.parsing.proofs.is_headed.Goals as goal

pub returns : goal.returns
unfolding headed
returns c = rw (c.heading_ok.ensures, c.is_marked.ensures, c.heading_at-h.ensures)
