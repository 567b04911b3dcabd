-- `parsing::line_at` meets its contract. Each field is read where it stands, so the line is the one at its place. Assumes nothing.
use borrow.Author.Rules.{rules}
use Rattle.parsing.proofs.Read.{line_is}
use Rattle.parsing.proofs.line_at.Goals as goal

pub returns : goal.returns
returns c = line_is _ _ _ (search rules) (search rules) (search rules) (search rules) (search rules)
