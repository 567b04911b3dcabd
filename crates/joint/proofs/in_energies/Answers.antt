-- `joint::in_energies` meets its contract. The rows are in order, so the first that is not below the account tells. Assumes nothing.
use mathlib.Core.Path.{◌∙◌}
use Rattle.records.specs.Rows.{energy_row}
use Rattle.sharing.specs.Accounts.{energy_account}
use Rattle.sharing.proofs.InOrder.{in_order}
use Rattle.joint.specs.Names.{energies_of}
use Rattle.joint.proofs.Known.{place_seen}
use Rattle.joint.proofs.in_energies.Goals as goal

pub first_from-i-requires-clause-keeps : goal.first_from-i-requires-clause-keeps
unfolding energy_row
first_from-i-requires-clause-keeps c = in_order c.args.book.now.laid.sorted

pub returns : goal.returns
unfolding energy_row
returns c = c.has_key.ensures ∙ place_seen (energy_account (energies_of c.args.book.now.book.now c.args.book.now.rows)) _ _ _ (in_order c.args.book.now.laid.sorted) c.first_from-i.ensures
