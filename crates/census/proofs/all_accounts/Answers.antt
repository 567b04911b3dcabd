-- `census::all_accounts` meets its contract. The tree has no row at first. Assumes nothing.
use Rattle.census.proofs.Tree.{grown_none}
use Rattle.census.proofs.all_accounts.Goals as goal

pub grown_accounts-requires-clause-grown : goal.grown_accounts-requires-clause-grown
grown_accounts-requires-clause-grown c = grown_none _
